use Rattle.script_words.proofs.HexWords.{hex_bytes-each}
use Rattle.script_words.proofs.hex_words.read_bytes.Goals as goal

pub returns-in-Ok-clause-each : goal.returns-in-Ok-clause-each
returns-in-Ok-clause-each c = hex_bytes-each c.bytes.result.now c.in-Ok.bytes c.in-Ok.ensures.value
