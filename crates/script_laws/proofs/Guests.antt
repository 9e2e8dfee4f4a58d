-- The lines of the board and of the guests say them again.
use Rattle.std.proofs.Common.{◌≡◌, ℕ, suc, ◌+◌, ◌^◌, ◌<◌, ◌≤◌, Bool, true, false, List, [], ◌∷◌, ◌++◌, length, Some, Ok, refl, sym, ap, ◌∙◌, arith, append_assoc, length-append}
use Rattle.std.specs.Prelude.{◌==◌, not, map, codes}
use Rattle.std.specs.List.{All, list_all}
use Rattle.std.specs.Fmt.{decimal}
use Rattle.std.proofs.lemmas.Bool.{and_from}
use Rattle.std.proofs.lemmas.Bool.Decides.{nat_tests}
use Rattle.std.proofs.lemmas.List.{append-nil}
use Rattle.hex.specs.Hex.{encode_lower}
use Rattle.byte_fields.specs.Sizes.{guest_limit, page_limit, sector_limit}
use Rattle.board_text.specs.Number.{number_of}
use Rattle.legacy_regs.specs.declared.device.Kind.{Kind}
use Rattle.legacy_regs.specs.declared.device.Kind.TheVariants as kind
use Rattle.script_words.specs.declared.cause.Cause.TheVariants as cause
use Rattle.script_words.specs.declared.shape.Member.{Member}
use Rattle.script_words.specs.declared.shape.Member.TheVariants as member
use Rattle.script_words.specs.declared.shape.Shape.TheVariants as line
use Rattle.script_words.specs.Words.{are_words}
use Rattle.script_words.specs.Shape.{form_of}
use Rattle.script_words.specs.Values.{◌>>=◌, number_in, bytes_in, queue_size_at}
use Rattle.board_script.specs.declared.draft.Use.TheVariants as use_of
use Rattle.board_script.specs.declared.script.Board.{Board}
use Rattle.board_script.specs.declared.script.Setup.{Setup}
use Rattle.board_script.specs.Limits.{queue_limit, worker_limit, mac_length}
use Rattle.board_script.specs.SoFar.{nothing, is_other}
use Rattle.board_script.specs.Bounds.{IsBoard, IsKind, IsSetup}
use Rattle.board_script.specs.Lines.{provided, next_guest, board_says}
use Rattle.board_script.specs.Script.{with_text, with_lines}
use Rattle.board_script.specs.Shapes.{member_says}
use Rattle.script_writer.specs.Written.{board_words, member_words, guest_words, guest_lines}
use Rattle.script_laws.proofs.Numbers.{number_again, number_word}
use Rattle.script_laws.proofs.Hexes.{hex_word}
use Rattle.script_laws.proofs.Values.{then_ok, number_in_again, queue_size_again, size_fits, bytes_in_again}
use Rattle.script_laws.proofs.Lines.{line_of, is_line}
use Rattle.script_laws.proofs.Steps.{place_of, so_far, line_again, one_line}

-- ---- the board

pub board_is_line : (board : Board) → IsBoard board → is_line (board_words board) ≡ true
board_is_line board is =
    let size = size_fits board.queue_size is.queue_size in
    and_from _ _ (number_word board.queues (omega (arith, is.few_queues))) (and_from _ _ (number_word board.queue_size (omega arith)) (and_from _ _ (number_word board.workers (omega (arith, is.few_workers))) refl))

board_said : (board : Board) → IsBoard board → board_says nothing (decimal board.queues) (decimal board.queue_size) (decimal board.workers) ≡ Ok (so_far board [] [] [])
board_said board is =
    then_ok (number_in 1 queue_limit (decimal board.queues)) board.queues _ (number_in_again 1 queue_limit board.queues is.a_queue is.few_queues (omega arith))
    ∙ then_ok (queue_size_at (number_of (decimal board.queue_size))) board.queue_size _ (queue_size_again board.queue_size is.queue_size)
    ∙ then_ok (number_in 0 worker_limit (decimal board.workers)) board.workers _ (number_in_again 0 worker_limit board.workers (omega arith) is.few_workers (omega arith))

pub board_again : (board : Board) → IsBoard board → with_text (place_of 1) nothing (line_of (board_words board)) ≡ Ok (so_far board [] [] [])
board_again board is =
    line_again 1 nothing 98 (codes "oard") (decimal board.queues ∷ decimal board.queue_size ∷ decimal board.workers ∷ []) (line.Board (decimal board.queues) (decimal board.queue_size) (decimal board.workers)) refl (board_is_line board is) refl
    ∙ board_said board is

-- ---- the guests

-- the words of a member as they are read
abbrev pub member_at : ℕ → Kind → Member
member_at pages (kind.Block sectors read_only) = member.Block (decimal pages) (decimal sectors) read_only
member_at pages (kind.Net mac) = member.Net (decimal pages) (encode_lower mac)

member_are_words : (pages : ℕ) (of_kind : Kind) → pages ≤ page_limit → IsKind of_kind → are_words (member_words pages of_kind) ≡ true
member_are_words pages (kind.Block sectors true) few is = and_from _ _ (number_word pages (omega arith)) (and_from _ _ (number_word sectors (omega arith)) refl)
member_are_words pages (kind.Block sectors false) few is = and_from _ _ (number_word pages (omega arith)) (and_from _ _ (number_word sectors (omega arith)) refl)
member_are_words pages (kind.Net mac) few is = and_from _ _ (number_word pages (omega arith)) (and_from _ _ (hex_word mac is.1 (omega (arith, is.0))) refl)

guest_form_again : (number pages : ℕ) (of_kind : Kind) → form_of (codes "guest" ∷ decimal number ∷ member_words pages of_kind) ≡ Some (line.Guest (decimal number) (member_at pages of_kind))
guest_form_again number pages (kind.Block sectors true) = refl
guest_form_again number pages (kind.Block sectors false) = refl
guest_form_again number pages (kind.Net mac) = refl

pub guest_is_line : (number : ℕ) (setup : Setup) → number ≤ guest_limit → IsSetup setup → is_line (guest_words number setup) ≡ true
guest_is_line number setup few is = and_from _ _ (number_word number (omega arith)) (member_are_words setup.pages setup.kind is.few_pages is.kind)

same_number : (n : ℕ) → not (n == n) ≡ false
same_number n = grind (arith, nat_tests)

in_turn : (next : ℕ) → next < 2 ^ 64 → is_other next (number_of (decimal next)) ≡ false
in_turn next lt = ap (is_other next) (number_again next lt) ∙ same_number next

next_again : (board : Board) (before : List Setup) → length before + 1 ≤ guest_limit → next_guest (so_far board before [] []) (decimal (length before + 1)) ≡ Ok (length before + 1)
next_again board before few =
    ap (λ (b : Bool). provided (not b) cause.Setup >>= (λ _. number_in 1 guest_limit (decimal (length before + 1)))) (in_turn (length before + 1) (omega arith))
    ∙ number_in_again 1 guest_limit (length before + 1) (omega arith) few (omega arith)

guest_said : (board : Board) (before : List Setup) (pages : ℕ) (of_kind : Kind) → length before + 1 ≤ guest_limit → 1 ≤ pages → pages ≤ page_limit → IsKind of_kind
    → member_says (so_far board before [] []) (decimal (length before + 1)) (member_at pages of_kind) ≡ Ok (so_far board (before ++ record { pages = pages; kind = of_kind } ∷ []) [] [])
guest_said board before pages (kind.Block sectors read_only) fits some few is =
    then_ok (next_guest (so_far board before [] []) (decimal (length before + 1))) (length before + 1) _ (next_again board before fits)
    ∙ then_ok (number_in 1 page_limit (decimal pages)) pages _ (number_in_again 1 page_limit pages some few (omega arith))
    ∙ then_ok (number_in 0 sector_limit (decimal sectors)) sectors _ (number_in_again 0 sector_limit sectors (omega arith) is (omega arith))
guest_said board before pages (kind.Net mac) fits some few is =
    then_ok (next_guest (so_far board before [] []) (decimal (length before + 1))) (length before + 1) _ (next_again board before fits)
    ∙ then_ok (number_in 1 page_limit (decimal pages)) pages _ (number_in_again 1 page_limit pages some few (omega arith))
    ∙ then_ok (bytes_in mac_length mac_length (encode_lower mac)) mac _ (bytes_in_again mac_length mac_length mac is.1 (omega (arith, is.0)) (omega (arith, is.0)) (omega (arith, is.0)))

guest_again : (number : ℕ) (board : Board) (before : List Setup) (setup : Setup) → length before + 1 ≤ guest_limit → IsSetup setup
    → with_text (place_of number) (so_far board before [] []) (line_of (guest_words (length before + 1) setup)) ≡ Ok (so_far board (before ++ setup ∷ []) [] [])
guest_again number board before setup few is =
    line_again number (so_far board before [] []) 103 (codes "uest") (decimal (length before + 1) ∷ member_words setup.pages setup.kind) (line.Guest (decimal (length before + 1)) (member_at setup.pages setup.kind)) refl
    (guest_is_line (length before + 1) setup few is) (guest_form_again (length before + 1) setup.pages setup.kind)
    ∙ guest_said board before setup.pages setup.kind few is.a_page is.few_pages is.kind

rest_of : (P : Setup → Type 0) (setup : Setup) (setups : List Setup) → All P (setup ∷ setups) → All P setups
rest_of P setup setups all = λ k d lt. all (suc k) d (omega arith)

pub guests_are_lines : (number : ℕ) (setups : List Setup) → number + length setups ≤ guest_limit + 1 → All IsSetup setups → list_all is_line (guest_lines number setups) ≡ true
guests_are_lines number [] few all = refl
guests_are_lines number (setup ∷ setups) few all =
    and_from _ _ (guest_is_line number setup (omega arith) (all 0 setup (omega arith))) (guests_are_lines (number + 1) setups (omega arith) (rest_of IsSetup setup setups all))

counted : (before : List Setup) (setup : Setup) → length (before ++ setup ∷ []) + 1 ≡ length before + 1 + 1
counted before setup = omega (arith, length-append before (setup ∷ []))

-- After the lines of guests, the guests stand behind those before.
pub guests_again : (number : ℕ) (board : Board) (before setups : List Setup) (rest : List (List (List ℕ))) → length before + length setups ≤ guest_limit → All IsSetup setups
    → with_lines use_of.Group number (so_far board before [] []) (map line_of (guest_lines (length before + 1) setups ++ rest)) ≡ with_lines use_of.Group (number + length setups) (so_far board (before ++ setups) [] []) (map line_of rest)
guests_again number board before [] rest few all =
    ap (λ (n : ℕ). with_lines use_of.Group n (so_far board before [] []) (map line_of rest)) (omega arith) ∙ ap (λ (g : List Setup). with_lines use_of.Group (number + 0) (so_far board g [] []) (map line_of rest)) (sym (append-nil before))
guests_again number board before (setup ∷ setups) rest few all =
    let after : List Setup = before ++ setup ∷ [] in
    let count : length after ≡ length before + 1 = length-append before (setup ∷ []) in
    let number_is : number + 1 + length setups ≡ number + length (setup ∷ setups) = omega arith in
    one_line number (so_far board before [] []) (so_far board after [] []) (guest_words (length before + 1) setup) (guest_lines (length before + 1 + 1) setups ++ rest)
    (guest_again number board before setup (omega arith) (all 0 setup (omega arith)))
    ∙ ap (λ (n : ℕ). with_lines use_of.Group (number + 1) (so_far board after [] []) (map line_of (guest_lines n setups ++ rest))) (sym (counted before setup))
    ∙ guests_again (number + 1) board after setups rest (omega arith) (rest_of IsSetup setup setups all)
    ∙ ap (λ (n : ℕ). with_lines use_of.Group n (so_far board (after ++ setups) [] []) (map line_of rest)) number_is
    ∙ ap (λ (g : List Setup). with_lines use_of.Group (number + length (setup ∷ setups)) (so_far board g [] []) (map line_of rest)) (append_assoc before (setup ∷ []) setups)
