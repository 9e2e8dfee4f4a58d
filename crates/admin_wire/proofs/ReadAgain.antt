-- What a writer wrote is read again.
use Rattle.std.proofs.Common.{◌≡◌, ℕ, ◌+◌, ◌-◌, ◌^◌, ◌<◌, ◌≤◌, List, [], ◌∷◌, ◌++◌, length, get_or, take, drop, replicate, refl, sym, ap, subst, ◌∙◌, arith, append_assoc, append-nil, zero-add, lit<, inl, inr}
use Rattle.std.proofs.Math.Seq.{drop-append-add}
use Rattle.std.proofs.lemmas.Bool.{cases_lt}
use Rattle.std.proofs.lemmas.List.{length-append, length-replicate, length-take, get_or-append-add, drop_all, drop-take}
use Rattle.byte_fields.specs.Places.{number_at, bytes_of}
use Rattle.byte_fields.proofs.Places.{number_at-bytes_of, number_at-append, number_in_part, length-bytes_of}
use Rattle.admin_wire.specs.declared.command.LegacyCmd.{LegacyCmd}
use Rattle.admin_wire.specs.declared.command.LegacyCmd.TheVariants.{CommonWrite, CommonRead, DevWrite, DevRead, Info}
use Rattle.admin_wire.specs.Command.{command_of, body_of}
use Rattle.admin_wire.specs.Done.{done_of, parts_of, result_with}
use Rattle.admin_wire.specs.Writing.{fixed_part, query_bytes, use_bytes, legacy_bytes, result_length, query_command, use_command, legacy_command}

-- ---- the fixed part

length-front : (opcode : ℕ) → length (bytes_of 2 opcode ++ bytes_of 2 1 ++ replicate 12 0) ≡ 16
length-front opcode = simp (length-append, length-bytes_of, length-replicate) refl

pub length-fixed_part : (opcode member : ℕ) → length (fixed_part opcode member) ≡ 24
unfolding fixed_part
length-fixed_part opcode member = simp (length-append, length-bytes_of, length-replicate) refl

pub opcode_again : (opcode member : ℕ) (rest : List ℕ) → opcode < 2 ^ 16 → number_at 2 0 (fixed_part opcode member ++ rest) ≡ opcode
unfolding fixed_part
opcode_again opcode member rest small = simp append_assoc (number_at-bytes_of 2 opcode _ small)

pub group_type_again : (opcode member : ℕ) (rest : List ℕ) → number_at 2 2 (fixed_part opcode member ++ rest) ≡ 1
unfolding fixed_part
group_type_again opcode member rest =
    let place : 2 ≡ length (bytes_of 2 opcode) + 0 = omega (arith, length-bytes_of 2 opcode) in
    simp append_assoc (number_at-append 2 0 2 (bytes_of 2 opcode) _ place ∙ number_at-bytes_of 2 1 _ (lit< tt))

pub member_again : (opcode member : ℕ) (rest : List ℕ) → member < 2 ^ 64 → number_at 8 16 (fixed_part opcode member ++ rest) ≡ member
unfolding fixed_part
member_again opcode member rest small =
    let place : 16 ≡ length (bytes_of 2 opcode ++ bytes_of 2 1 ++ replicate 12 0) + 0 = omega (arith, length-front opcode) in
    ap (number_at 8 16) (append_assoc (bytes_of 2 opcode ++ bytes_of 2 1 ++ replicate 12 0) (bytes_of 8 member) rest)
    ∙ number_at-append 8 0 16 (bytes_of 2 opcode ++ bytes_of 2 1 ++ replicate 12 0) (bytes_of 8 member ++ rest) place
    ∙ number_at-bytes_of 8 member rest small

list_again : (opcode member bits : ℕ) → bits < 2 ^ 64 → number_at 8 24 (fixed_part opcode member ++ bytes_of 8 bits) ≡ bits
list_again opcode member bits small =
    let place : 24 ≡ length (fixed_part opcode member) + 0 = omega (arith, length-fixed_part opcode member) in
    number_at-append 8 0 24 (fixed_part opcode member) (bytes_of 8 bits) place
    ∙ ap (number_at 8 0) (sym (append-nil (bytes_of 8 bits)))
    ∙ number_at-bytes_of 8 bits [] small

offset_again : (opcode member : ℕ) (rest : List ℕ) → get_or (fixed_part opcode member ++ rest) 24 0 ≡ get_or rest 0 0
offset_again opcode member rest =
    let place : length (fixed_part opcode member) + 0 ≡ 24 = omega (arith, length-fixed_part opcode member) in
    rw place at (get_or-append-add (fixed_part opcode member) rest 0 0)

data_again : (opcode member : ℕ) (rest : List ℕ) → drop 32 (fixed_part opcode member ++ rest) ≡ drop 8 rest
data_again opcode member rest =
    let place : length (fixed_part opcode member) + 8 ≡ 32 = omega (arith, length-fixed_part opcode member) in
    rw place at (drop-append-add (fixed_part opcode member) rest 8)

-- ---- commands

again : (opcode member writable : ℕ) (rest : List ℕ) → opcode < 2 ^ 16 → member < 2 ^ 64
    → command_of (fixed_part opcode member ++ rest) writable ≡ record { opcode = opcode; group_type = 1; member = member; body = body_of opcode (fixed_part opcode member ++ rest) writable }
again opcode member writable rest small fits = rw (opcode_again opcode member rest small, group_type_again opcode member rest, member_again opcode member rest fits) refl

pub query_again : (writable : ℕ) → command_of query_bytes writable ≡ query_command
query_again writable = subst (λ (bytes : List ℕ). command_of bytes writable ≡ query_command) (append-nil (fixed_part 0 0)) (again 0 0 writable [] (lit< tt) (lit< tt))

pub use_again : (bits writable : ℕ) → bits < 2 ^ 64 → command_of (use_bytes bits) writable ≡ use_command bits
use_again bits writable small = again 1 0 writable (bytes_of 8 bits) (lit< tt) (lit< tt) ∙ rw (list_again 1 0 bits small) refl

-- a write's data stand behind its offset and 7 bytes
write_again : (opcode member offset : ℕ) (bytes : List ℕ) → (get_or (fixed_part opcode member ++ ((offset ∷ replicate 7 0) ++ bytes)) 24 0 ≡ offset) × (drop 32 (fixed_part opcode member ++ ((offset ∷ replicate 7 0) ++ bytes)) ≡ bytes)
write_again opcode member offset bytes = (offset_again opcode member ((offset ∷ replicate 7 0) ++ bytes), data_again opcode member ((offset ∷ replicate 7 0) ++ bytes))

pub legacy_again : (member : ℕ) (command : LegacyCmd) → member < 2 ^ 64 → command_of (legacy_bytes member command) (8 + result_length command) ≡ legacy_command member command
legacy_again member (CommonWrite offset bytes) small =
    let written = write_again 2 member offset bytes in
    again 2 member 8 ((offset ∷ replicate 7 0) ++ bytes) (lit< tt) small ∙ rw (written.0, written.1) refl
legacy_again member (CommonRead offset size) small =
    let length_is : 8 + size - 8 ≡ size = omega arith in
    again 3 member (8 + size) (offset ∷ []) (lit< tt) small ∙ rw (offset_again 3 member (offset ∷ []), length_is) refl
legacy_again member (DevWrite offset bytes) small =
    let written = write_again 4 member offset bytes in
    again 4 member 8 ((offset ∷ replicate 7 0) ++ bytes) (lit< tt) small ∙ rw (written.0, written.1) refl
legacy_again member (DevRead offset size) small =
    let length_is : 8 + size - 8 ≡ size = omega arith in
    again 5 member (8 + size) (offset ∷ []) (lit< tt) small ∙ rw (offset_again 5 member (offset ∷ []), length_is) refl
legacy_again member Info small = again 6 member 72 [] (lit< tt) small

-- ---- completions

-- the bytes of a completion before its result
abbrev front_of : ℕ → ℕ → List ℕ
front_of status qualifier = bytes_of 2 status ++ bytes_of 2 qualifier ++ replicate 4 0

length-front_of : (status qualifier : ℕ) → length (front_of status qualifier) ≡ 8
length-front_of status qualifier = simp (length-append, length-bytes_of, length-replicate) refl

in_front : (n place room : ℕ) (bytes : List ℕ) → place + n ≤ room → number_at n place (take room bytes) ≡ number_at n place bytes
in_front n place room bytes fits = number_in_part n 0 room place bytes fits ∙ ap (λ (at : ℕ). number_at n at bytes) (zero-add place)

status_again : (status qualifier : ℕ) (rest : List ℕ) → status < 2 ^ 16 → number_at 2 0 (front_of status qualifier ++ rest) ≡ status
status_again status qualifier rest small = simp append_assoc (number_at-bytes_of 2 status _ small)

qualifier_again : (status qualifier : ℕ) (rest : List ℕ) → qualifier < 2 ^ 16 → number_at 2 2 (front_of status qualifier ++ rest) ≡ qualifier
qualifier_again status qualifier rest small =
    let place : 2 ≡ length (bytes_of 2 status) + 0 = omega (arith, length-bytes_of 2 status) in
    simp append_assoc (number_at-append 2 0 2 (bytes_of 2 status) _ place ∙ number_at-bytes_of 2 qualifier _ small)

-- the status, wherever it was written
pub status_back : (status qualifier : ℕ) (payload : List ℕ) (writable : ℕ) → status < 2 ^ 16 → 2 ≤ length (done_of status qualifier payload writable) → number_at 2 0 (done_of status qualifier payload writable) ≡ status
status_back status qualifier payload writable small room =
    let whole = front_of status qualifier ++ result_with status payload in
    let size = length-take writable whole in
    in_front 2 0 writable whole (omega arith) ∙ status_again status qualifier (result_with status payload) small

-- what stands behind 8 bytes, in as many bytes as there is room for
rest_again : (front rest : List ℕ) (room : ℕ) → length front ≡ 8 → drop 8 (take room (front ++ rest)) ≡ take (room - 8) rest
rest_again front rest room size =
    let behind : drop 8 (front ++ rest) ≡ rest = let e : length front + 0 ≡ 8 = omega arith in rw e at (drop-append-add front rest 0) in
    elim (cases_lt room 8) [
      | inl short ↦
          let none : room - 8 ≡ 0 = omega arith in
          rw none (drop_all 8 (take room (front ++ rest)) (omega (arith, length-take room (front ++ rest))))
      | inr long ↦
          let split : 8 + (room - 8) ≡ room = omega arith in
          rw split at (drop-take 8 (room - 8) (front ++ rest)) ∙ ap (take (room - 8)) behind
    ]

pub done_again : (status qualifier : ℕ) (payload : List ℕ) (writable : ℕ) → status < 2 ^ 16 → qualifier < 2 ^ 16 → 4 ≤ writable
    → parts_of (done_of status qualifier payload writable) ≡ record { status = status; qualifier = qualifier; payload = take (writable - 8) (result_with status payload) }
done_again status qualifier payload writable small few room =
    let result = result_with status payload in
    let status_is = in_front 2 0 writable (front_of status qualifier ++ result) (omega arith) ∙ status_again status qualifier result small in
    let qualifier_is = in_front 2 2 writable (front_of status qualifier ++ result) (omega arith) ∙ qualifier_again status qualifier result few in
    rw (status_is, qualifier_is, rest_again (front_of status qualifier) result writable (length-front_of status qualifier)) refl
