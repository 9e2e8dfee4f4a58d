-- A script that is written is read again.
use Rattle.std.proofs.Common.{◌≡◌, ℕ, ◌+◌, true, List, [], ◌++◌, length, Result, Ok, ap, ◌∙◌, arith}
use Rattle.std.specs.Prelude.{map}
use Rattle.std.specs.List.{list_all}
use Rattle.std.proofs.lemmas.Bool.{and_from}
use Rattle.std.proofs.lemmas.List.Folds.{list_all-append}
use Rattle.script_words.specs.Texts.{At}
use Rattle.board_script.specs.declared.draft.Use.TheVariants as use_of
use Rattle.board_script.specs.Bounds.{IsScript}
use Rattle.board_script.specs.SoFar.{SoFar, nothing}
use Rattle.board_script.specs.Script.{Whole, with_lines, at_end}
use Rattle.script_writer.specs.Written.{board_words, guest_lines, actor_words, turns_words, script_lines}
use Rattle.script_laws.specs.Again.{numbered, IsReadAgain}
use Rattle.script_laws.proofs.Lines.{line_of, is_line, lines_again}
use Rattle.script_laws.proofs.Steps.{so_far, one_line}
use Rattle.script_laws.proofs.Guests.{board_is_line, board_again, guests_are_lines, guests_again}
use Rattle.script_laws.proofs.Whats.{IsMade}
use Rattle.script_laws.proofs.Schedule.{actors_are_lines, actors_again, turns_are_lines, turns_again}

are_lines : (s : Whole) → IsScript s → list_all is_line (script_lines s) ≡ true
are_lines s is =
    let made : IsMade s.board s.guests = record { is_board = is.board; few = is.few_guests; are_guests = is.guests } in
    and_from _ _ (board_is_line s.board is.board)
    (list_all-append is_line (guest_lines 1 s.guests) (map actor_words s.lines ++ map turns_words s.turns)
    ∙ and_from _ _ (guests_are_lines 1 s.guests (omega (arith, is.few_guests)) is.guests)
    (list_all-append is_line (map actor_words s.lines) (map turns_words s.turns)
    ∙ and_from _ _ (actors_are_lines s.board s.guests s.lines made is.lines) (turns_are_lines s.board s.guests s.turns made is.turns)))

pub read_again : IsReadAgain
read_again s is =
    let made : IsMade s.board s.guests = record { is_board = is.board; few = is.few_guests; are_guests = is.guests } in
    let schedule : List (List (List ℕ)) = map turns_words s.turns in
    let others : List (List (List ℕ)) = map actor_words s.lines ++ schedule in
    let all : with_lines use_of.Group 1 nothing (map line_of (script_lines s)) ≡ Ok (so_far s.board s.guests (numbered (2 + length s.guests) s.lines) s.turns) =
    one_line 1 nothing (so_far s.board [] [] []) (board_words s.board) (guest_lines 1 s.guests ++ others) (board_again s.board is.board)
    ∙ guests_again 2 s.board [] s.guests others (omega (arith, is.few_guests)) is.guests
    ∙ actors_again (2 + length s.guests) s.board s.guests [] s.lines schedule made is.lines
    ∙ turns_again (2 + length s.guests + length s.lines) s.board s.guests (numbered (2 + length s.guests) s.lines) [] s.turns made is.turns (omega (arith, is.scheduled)) in
    ap (λ (l : List (List ℕ)). at_end use_of.Group (with_lines use_of.Group 1 nothing l)) (lines_again (script_lines s) (are_lines s is)) ∙ ap (λ (r : Result SoFar At). at_end use_of.Group r) all
