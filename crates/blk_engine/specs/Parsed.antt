-- A request that is parsed. The code's own.
use Rattle.std.specs.Prelude.{ℕ, ◌-◌, List, Option, None, Some, length, if◌then◌else◌}
use Rattle.byte_fields.specs.Places.{le32, le64}
use Rattle.blk_engine.specs.declared.request.Request.{Request}
use Rattle.blk_engine.specs.Block.{is_malformed}

-- its type and sector, the bytes that are given behind its header, and the room before its status
abbrev pub parsed : List ℕ → ℕ → Option Request
parsed request writable =
    if is_malformed request writable then None
    else Some record { kind = le32 0 request; sector = le64 8 request; given = length request - 16; room = writable - 1 }
