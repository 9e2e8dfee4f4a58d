-- Each line of an actor says again what it was written for.
use Rattle.std.proofs.Common.{◌≡◌, ℕ, zero, suc, ◌+◌, ◌-◌, ◌*◌, ◌^◌, ◌<◌, ◌≤◌, Bool, true, false, nat_le, List, [], ◌∷◌, ◌++◌, length, Option, Some, None, Ok, refl, sym, ap, subst, ◌∙◌, arith}
use Rattle.std.specs.Fmt.{decimal}
use Rattle.std.specs.List.{All, slice_get}
use Rattle.std.proofs.lemmas.Bool.{and_from}
use Rattle.std.proofs.lemmas.List.Folds.{list_all-append}
use Rattle.hex.specs.Hex.{encode_lower}
use Rattle.byte_fields.specs.Sizes.{guest_limit, page_limit, page_size, shortest_frame, longest_frame}
use Rattle.board_text.specs.Number.{number_of}
use Rattle.board_text.specs.Hex.{hex_bytes}
use Rattle.script_words.specs.declared.cause.Cause.TheVariants as cause
use Rattle.script_words.specs.declared.shape.Act.TheVariants as act
use Rattle.script_words.specs.declared.shape.Tail.{Tail}
use Rattle.script_words.specs.Words.{is_word, are_words}
use Rattle.script_words.specs.Parts.{form, tail_of, switch_of}
use Rattle.script_words.specs.Values.{number_in, any_number, width_at, bytes_in, bytes_of_width}
use Rattle.board_script.specs.declared.script.ActorLine.{ActorLine}
use Rattle.board_script.specs.declared.script.Board.{Board}
use Rattle.board_script.specs.declared.script.Setup.{Setup}
use Rattle.board_script.specs.declared.script.What.{What}
use Rattle.board_script.specs.declared.script.What.TheVariants as what
use Rattle.board_script.specs.Limits.{queue_limit, worker_limit, first_worker, the_host, offset_limit, range_limit, index_limit}
use Rattle.board_script.specs.SoFar.{guest_at, worker_at, queue_at, bytes_at, memory_of, is_net}
use Rattle.board_script.specs.Bounds.{IsBoard, IsSetup, IsGuest, IsWorker, IsQueue, MayAsk}
use Rattle.board_script.specs.Lines.{provided, queue_named}
use Rattle.script_writer.specs.Written.{at_words, once_words, switch_word}
use Rattle.script_laws.proofs.Numbers.{number_word, plain_number}
use Rattle.script_laws.proofs.Hexes.{hex_word}
use Rattle.script_laws.proofs.Values.{then_ok, provided_holds, upto, number_in_again, any_number_again, among_again, width_fits, width_again, bytes_in_again, short_bytes_again}
use Rattle.script_laws.proofs.Steps.{so_far}
use Rattle.script_laws.proofs.Actors.{IsSaid, guest_says, worker_says, host_says}

-- ---- the tail of an access

abbrev queue_at_tail : Option ℕ → Option (List ℕ)
queue_at_tail None = None
queue_at_tail (Some queue) = Some (decimal queue)

abbrev tail_at : Option ℕ → Bool → Tail
tail_at queue once = record { queue = queue_at_tail queue; once = once }

tail_again : (queue : Option ℕ) (once : Bool) → tail_of (at_words queue ++ once_words once) ≡ Some (tail_at queue once)
tail_again None true = refl
tail_again None false = refl
tail_again (Some queue) true = refl
tail_again (Some queue) false = refl

at_are_words : (queues : ℕ) (queue : Option ℕ) → queues ≤ queue_limit → IsQueue queues queue → are_words (at_words queue) ≡ true
at_are_words queues None few is = refl
at_are_words queues (Some queue) few is = and_from _ _ (plain_number queue (omega arith)) refl

once_are_words : (once : Bool) → are_words (once_words once) ≡ true
once_are_words true = refl
once_are_words false = refl

tail_are_words : (queues : ℕ) (queue : Option ℕ) (once : Bool) → queues ≤ queue_limit → IsQueue queues queue → are_words (at_words queue ++ once_words once) ≡ true
tail_are_words queues queue once few is = list_all-append is_word (at_words queue) (once_words once) ∙ and_from _ _ (at_are_words queues queue few is) (once_are_words once)

queue_said : (board : Board) (guests : List Setup) (lines : List ActorLine) (queue : Option ℕ) → board.queues ≤ queue_limit → IsQueue board.queues queue
    → queue_named (so_far board guests lines []) (queue_at_tail queue) ≡ Ok queue
queue_said board guests lines None few is = refl
queue_said board guests lines (Some queue) few is =
    then_ok (queue_at (so_far board guests lines []) (decimal queue)) queue (λ q. Ok (Some q)) (among_again 0 board.queues queue (omega arith) is (omega arith))

abbrev behind : List ℕ → List ℕ → Tail → List ℕ × List ℕ × Tail
behind offset word tail = (offset, word, tail)

-- ---- `on` and `off`

switch_again : (on : Bool) → switch_of (switch_word on ∷ []) ≡ Some on
switch_again true = refl
switch_again false = refl

switch_are_words : (on : Bool) → are_words (switch_word on ∷ []) ≡ true
switch_are_words true = refl
switch_are_words false = refl

-- ---- the bounds that the board and the guests give

-- a board and its guests
pub record IsMade (board : Board) (guests : List Setup) : Type 0 where
  pub is_board : IsBoard board
  pub few : length guests ≤ guest_limit
  pub are_guests : All IsSetup guests

memory_fits : (guests : List Setup) (k : ℕ) → All IsSetup guests → bytes_at (slice_get guests k) ≤ page_size * page_limit
memory_fits [] k all = omega arith
memory_fits (setup ∷ guests) zero all = let few = (all 0 setup (omega arith)).few_pages in omega arith
memory_fits (setup ∷ guests) (suc k) all = memory_fits guests k (λ i d lt. all (suc i) d (omega arith))

pub guest_again : (board : Board) (guests : List Setup) (lines : List ActorLine) (n : ℕ) → length guests ≤ guest_limit → IsGuest guests n → guest_at (so_far board guests lines []) (decimal n) ≡ Ok n
guest_again board guests lines n few is = among_again 1 (length guests + 1) n is.low (omega (arith, is.exists)) (omega arith)

pub worker_again : (board : Board) (guests : List Setup) (lines : List ActorLine) (n : ℕ) → board.workers ≤ worker_limit → IsWorker board.workers n
    → worker_at (so_far board guests lines []) (decimal (n - first_worker)) ≡ Ok (n - first_worker)
worker_again board guests lines n few is = among_again 0 board.workers (n - first_worker) (omega arith) (omega (arith, is.low, is.exists)) (omega arith)

pub is_who : (n : ℕ) → first_worker ≤ n → first_worker + (n - first_worker) ≡ n
is_who n le = omega arith

pub few_guests : (guests : List Setup) (n : ℕ) → length guests ≤ guest_limit → IsGuest guests n → n ≤ guest_limit
few_guests guests n few is = omega (arith, is.exists)

-- ---- the lines of guests

in_says : (board : Board) (guests : List Setup) (who offset length_ : ℕ) (queue : Option ℕ) (once : Bool) → IsMade board guests → MayAsk board.queues board.workers guests who (what.BarRead offset length_ queue once)
    → IsSaid board guests who (what.BarRead offset length_ queue once)
in_says board guests who offset length_ queue once made may =
    let few = few_guests guests who made.few may.0 in
    let low : offset ≤ offset_limit = may.1 in
    let wide = (width_fits length_ may.2).1 in
    guest_says board guests who (what.BarRead offset length_ queue once) (act.In (decimal who) (decimal offset) (decimal length_) (tail_at queue once)) (omega arith)
    (and_from _ _ (number_word offset (omega arith)) (and_from _ _ (number_word length_ (omega arith)) (tail_are_words board.queues queue once made.is_board.few_queues may.3)))
    (ap (λ (o : Option Tail). form (form o (behind (decimal offset) (decimal length_))) (λ a. act.In (decimal who) a.0 a.1 a.2)) (tail_again queue once))
    (λ number lines.
    then_ok (guest_at (so_far board guests lines []) (decimal who)) who _ (guest_again board guests lines who made.few may.0)
    ∙ then_ok (number_in 0 offset_limit (decimal offset)) offset _ (number_in_again 0 offset_limit offset (omega arith) low (omega arith))
    ∙ then_ok (width_at (number_of (decimal length_))) length_ _ (width_again length_ may.2)
    ∙ then_ok (queue_named (so_far board guests lines []) (queue_at_tail queue)) queue _ (queue_said board guests lines queue made.is_board.few_queues may.3))

out_says : (board : Board) (guests : List Setup) (who offset : ℕ) (bytes : List ℕ) (queue : Option ℕ) (once : Bool) → IsMade board guests → MayAsk board.queues board.workers guests who (what.BarWrite offset bytes queue once)
    → IsSaid board guests who (what.BarWrite offset bytes queue once)
out_says board guests who offset bytes queue once made may =
    let few = few_guests guests who made.few may.0 in
    let low : offset ≤ offset_limit = may.1 in
    let wide = width_fits (length bytes) may.3 in
    guest_says board guests who (what.BarWrite offset bytes queue once) (act.Out (decimal who) (decimal offset) (encode_lower bytes) (tail_at queue once)) (omega arith)
    (and_from _ _ (number_word offset (omega arith)) (and_from _ _ (hex_word bytes may.2 wide.0) (tail_are_words board.queues queue once made.is_board.few_queues may.4)))
    (ap (λ (o : Option Tail). form (form o (behind (decimal offset) (encode_lower bytes))) (λ a. act.Out (decimal who) a.0 a.1 a.2)) (tail_again queue once))
    (λ number lines.
    then_ok (guest_at (so_far board guests lines []) (decimal who)) who _ (guest_again board guests lines who made.few may.0)
    ∙ then_ok (number_in 0 offset_limit (decimal offset)) offset _ (number_in_again 0 offset_limit offset (omega arith) low (omega arith))
    ∙ then_ok (bytes_of_width (hex_bytes (encode_lower bytes))) bytes _ (short_bytes_again bytes may.2 may.3)
    ∙ then_ok (queue_named (so_far board guests lines []) (queue_at_tail queue)) queue _ (queue_said board guests lines queue made.is_board.few_queues may.4))

mem_says : (board : Board) (guests : List Setup) (who addr : ℕ) (bytes : List ℕ) → IsMade board guests → MayAsk board.queues board.workers guests who (what.Mem addr bytes) → IsSaid board guests who (what.Mem addr bytes)
mem_says board guests who addr bytes made may =
    let few = few_guests guests who made.few may.0 in
    let most = memory_fits guests (who - 1) made.are_guests in
    let inside : addr + length bytes ≤ memory_of guests who = may.4 in
    let fits : addr < 2 ^ 64 = omega arith in
    guest_says board guests who (what.Mem addr bytes) (act.Mem (decimal who) (decimal addr) (encode_lower bytes)) (omega arith)
    (and_from _ _ (number_word addr fits) (and_from _ _ (hex_word bytes may.1 may.2) refl)) refl
    (λ number lines.
    then_ok (guest_at (so_far board guests lines []) (decimal who)) who _ (guest_again board guests lines who made.few may.0)
    ∙ then_ok (any_number (number_of (decimal addr))) addr _ (any_number_again addr fits)
    ∙ then_ok (bytes_in 1 range_limit (encode_lower bytes)) bytes _ (bytes_in_again 1 range_limit bytes may.1 may.2 may.2 may.3)
    ∙ then_ok (provided (nat_le (addr + length bytes) (memory_of guests who)) cause.Range) tt _ (provided_holds _ cause.Range (upto (addr + length bytes) (memory_of guests who) inside)))

peek_says : (board : Board) (guests : List Setup) (who addr length_ : ℕ) → IsMade board guests → MayAsk board.queues board.workers guests who (what.Peek addr length_) → IsSaid board guests who (what.Peek addr length_)
peek_says board guests who addr length_ made may =
    let few = few_guests guests who made.few may.0 in
    let most = memory_fits guests (who - 1) made.are_guests in
    let inside : addr + length_ ≤ memory_of guests who = may.3 in
    let fits : addr < 2 ^ 64 = omega arith in
    let short : length_ ≤ range_limit = may.2 in
    guest_says board guests who (what.Peek addr length_) (act.Peek (decimal who) (decimal addr) (decimal length_)) (omega arith)
    (and_from _ _ (number_word addr fits) (and_from _ _ (number_word length_ (omega arith)) refl)) refl
    (λ number lines.
    then_ok (guest_at (so_far board guests lines []) (decimal who)) who _ (guest_again board guests lines who made.few may.0)
    ∙ then_ok (any_number (number_of (decimal addr))) addr _ (any_number_again addr fits)
    ∙ then_ok (number_in 1 range_limit (decimal length_)) length_ _ (number_in_again 1 range_limit length_ may.1 short (omega arith))
    ∙ then_ok (provided (nat_le (addr + length_) (memory_of guests who)) cause.Range) tt _ (provided_holds _ cause.Range (upto (addr + length_) (memory_of guests who) inside)))

msix_says : (board : Board) (guests : List Setup) (who : ℕ) (on : Bool) → IsMade board guests → IsGuest guests who → IsSaid board guests who (what.Msix on)
msix_says board guests who on made is =
    let few = few_guests guests who made.few is in
    guest_says board guests who (what.Msix on) (act.Msix (decimal who) on) (omega arith) (switch_are_words on) (ap (λ (o : Option Bool). form o (λ b. act.Msix (decimal who) b)) (switch_again on))
    (λ number lines. then_ok (guest_at (so_far board guests lines []) (decimal who)) who _ (guest_again board guests lines who made.few is))

io_says : (board : Board) (guests : List Setup) (who : ℕ) (on : Bool) → IsMade board guests → IsGuest guests who → IsSaid board guests who (what.Io on)
io_says board guests who on made is =
    let few = few_guests guests who made.few is in
    guest_says board guests who (what.Io on) (act.Io (decimal who) on) (omega arith) (switch_are_words on) (ap (λ (o : Option Bool). form o (λ b. act.Io (decimal who) b)) (switch_again on))
    (λ number lines. then_ok (guest_at (so_far board guests lines []) (decimal who)) who _ (guest_again board guests lines who made.few is))

cfg_says : (board : Board) (guests : List Setup) (who offset length_ : ℕ) → IsMade board guests → MayAsk board.queues board.workers guests who (what.Cfg offset length_) → IsSaid board guests who (what.Cfg offset length_)
cfg_says board guests who offset length_ made may =
    let few = few_guests guests who made.few may.0 in
    let low : offset ≤ offset_limit = may.1 in
    let wide = (width_fits length_ may.2).1 in
    guest_says board guests who (what.Cfg offset length_) (act.Cfg (decimal who) (decimal offset) (decimal length_)) (omega arith)
    (and_from _ _ (number_word offset (omega arith)) (and_from _ _ (number_word length_ (omega arith)) refl)) refl
    (λ number lines.
    then_ok (guest_at (so_far board guests lines []) (decimal who)) who _ (guest_again board guests lines who made.few may.0)
    ∙ then_ok (number_in 0 offset_limit (decimal offset)) offset _ (number_in_again 0 offset_limit offset (omega arith) low (omega arith))
    ∙ then_ok (width_at (number_of (decimal length_))) length_ _ (width_again length_ may.2))

irqs_says : (board : Board) (guests : List Setup) (who : ℕ) → IsMade board guests → IsGuest guests who → IsSaid board guests who what.Irqs
irqs_says board guests who made is =
    let few = few_guests guests who made.few is in
    guest_says board guests who what.Irqs (act.Irqs (decimal who)) (omega arith) refl refl (λ number lines. then_ok (guest_at (so_far board guests lines []) (decimal who)) who _ (guest_again board guests lines who made.few is))

poll_says : (board : Board) (guests : List Setup) (who queue : ℕ) → IsMade board guests → MayAsk board.queues board.workers guests who (what.Poll queue) → IsSaid board guests who (what.Poll queue)
poll_says board guests who queue made may =
    let few = few_guests guests who made.few may.0 in
    let low : queue ≤ index_limit = may.1 in
    guest_says board guests who (what.Poll queue) (act.Poll (decimal who) (decimal queue)) (omega arith) (and_from _ _ (number_word queue (omega arith)) refl) refl
    (λ number lines.
    then_ok (guest_at (so_far board guests lines []) (decimal who)) who _ (guest_again board guests lines who made.few may.0)
    ∙ then_ok (number_in 0 index_limit (decimal queue)) queue _ (number_in_again 0 index_limit queue (omega arith) low (omega arith)))

-- ---- the lines of workers

serve_says : (board : Board) (guests : List Setup) (who queue : ℕ) → IsMade board guests → MayAsk board.queues board.workers guests who (what.Serve queue) → IsSaid board guests who (what.Serve queue)
serve_says board guests who queue made may =
    let is : IsWorker board.workers who = may.0 in
    let exists : queue < board.queues = may.1 in
    let few = made.is_board.few_queues in
    worker_says board guests who (what.Serve queue) (act.Serve (decimal (who - first_worker)) (decimal queue)) is.low (omega (arith, is.exists, made.is_board.few_workers)) (and_from _ _ (number_word queue (omega arith)) refl) refl
    (λ number lines.
    then_ok (worker_at (so_far board guests lines []) (decimal (who - first_worker))) (who - first_worker) _ (worker_again board guests lines who made.is_board.few_workers is)
    ∙ then_ok (queue_at (so_far board guests lines []) (decimal queue)) queue _ (among_again 0 board.queues queue (omega arith) exists (omega arith))
    ∙ ap (λ (n : ℕ). Ok (so_far board guests (lines ++ record { number = number; who = n; what = what.Serve queue } ∷ []) [])) (is_who who is.low))

worker_poll_says : (board : Board) (guests : List Setup) (who member queue : ℕ) → IsMade board guests → MayAsk board.queues board.workers guests who (what.WorkerPoll member queue) → IsSaid board guests who (what.WorkerPoll member queue)
worker_poll_says board guests who member queue made may =
    let is : IsWorker board.workers who = may.0 in
    let few = few_guests guests member made.few may.1 in
    let low : queue ≤ index_limit = may.2 in
    worker_says board guests who (what.WorkerPoll member queue) (act.WorkerPoll (decimal (who - first_worker)) (decimal member) (decimal queue)) is.low (omega (arith, is.exists, made.is_board.few_workers))
    (and_from _ _ (number_word member (omega arith)) (and_from _ _ (number_word queue (omega arith)) refl)) refl
    (λ number lines.
    then_ok (worker_at (so_far board guests lines []) (decimal (who - first_worker))) (who - first_worker) _ (worker_again board guests lines who made.is_board.few_workers is)
    ∙ then_ok (guest_at (so_far board guests lines []) (decimal member)) member _ (guest_again board guests lines member made.few may.1)
    ∙ then_ok (number_in 0 index_limit (decimal queue)) queue _ (number_in_again 0 index_limit queue (omega arith) low (omega arith))
    ∙ ap (λ (n : ℕ). Ok (so_far board guests (lines ++ record { number = number; who = n; what = what.WorkerPoll member queue } ∷ []) [])) (is_who who is.low))

-- ---- the lines of the host

frame_says : (board : Board) (guests : List Setup) (member : ℕ) (frame : List ℕ) → IsMade board guests → MayAsk board.queues board.workers guests the_host (what.Frame member frame) → IsSaid board guests the_host (what.Frame member frame)
frame_says board guests member frame made may =
    let few = few_guests guests member made.few may.1 in
    let long : shortest_frame ≤ length frame = may.3 in
    let some : 0 < length frame = omega arith in
    host_says board guests (what.Frame member frame) (act.Frame (decimal member) (encode_lower frame)) (and_from _ _ (number_word member (omega arith)) (and_from _ _ (hex_word frame may.2 some) refl)) refl
    (λ number lines.
    then_ok (guest_at (so_far board guests lines []) (decimal member)) member _ (guest_again board guests lines member made.few may.1)
    ∙ then_ok (bytes_in shortest_frame longest_frame (encode_lower frame)) frame _ (bytes_in_again shortest_frame longest_frame frame may.2 some may.3 may.4)
    ∙ then_ok (provided (is_net guests member) cause.Kind) tt _ (provided_holds _ cause.Kind may.5))

flr_says : (board : Board) (guests : List Setup) (member : ℕ) → IsMade board guests → IsGuest guests member → IsSaid board guests the_host (what.Flr member)
flr_says board guests member made is =
    let few = few_guests guests member made.few is in
    host_says board guests (what.Flr member) (act.Flr (decimal member)) (and_from _ _ (number_word member (omega arith)) refl) refl
    (λ number lines. then_ok (guest_at (so_far board guests lines []) (decimal member)) member _ (guest_again board guests lines member made.few is))

disable_says : (board : Board) (guests : List Setup) (member : ℕ) → IsMade board guests → IsGuest guests member → IsSaid board guests the_host (what.Disable member)
disable_says board guests member made is =
    let few = few_guests guests member made.few is in
    host_says board guests (what.Disable member) (act.Disable (decimal member)) (and_from _ _ (number_word member (omega arith)) refl) refl
    (λ number lines. then_ok (guest_at (so_far board guests lines []) (decimal member)) member _ (guest_again board guests lines member made.few is))

reset_says : (board : Board) (guests : List Setup) → IsSaid board guests the_host what.Reset
reset_says board guests = host_says board guests what.Reset act.Reset refl refl (λ number lines. refl)

-- ---- each line

as_host : (board : Board) (guests : List Setup) (who : ℕ) (does : What) → who ≡ the_host → IsSaid board guests the_host does → IsSaid board guests who does
as_host board guests who does is said = subst (λ (n : ℕ). IsSaid board guests n does) (sym is) said

pub says : (board : Board) (guests : List Setup) (who : ℕ) (does : What) → IsMade board guests → MayAsk board.queues board.workers guests who does → IsSaid board guests who does
says board guests who (what.BarRead offset length_ queue once) made may = in_says board guests who offset length_ queue once made may
says board guests who (what.BarWrite offset bytes queue once) made may = out_says board guests who offset bytes queue once made may
says board guests who (what.Mem addr bytes) made may = mem_says board guests who addr bytes made may
says board guests who (what.Peek addr length_) made may = peek_says board guests who addr length_ made may
says board guests who (what.Msix on) made may = msix_says board guests who on made may
says board guests who (what.Io on) made may = io_says board guests who on made may
says board guests who (what.Cfg offset length_) made may = cfg_says board guests who offset length_ made may
says board guests who what.Irqs made may = irqs_says board guests who made may
says board guests who (what.Poll queue) made may = poll_says board guests who queue made may
says board guests who (what.Serve queue) made may = serve_says board guests who queue made may
says board guests who (what.WorkerPoll member queue) made may = worker_poll_says board guests who member queue made may
says board guests who (what.Frame member frame) made may =
    as_host board guests who (what.Frame member frame) may.0 (frame_says board guests member frame made (refl, may.1, may.2, may.3, may.4, may.5))
says board guests who (what.Flr member) made may = as_host board guests who (what.Flr member) may.0 (flr_says board guests member made may.1)
says board guests who (what.Disable member) made may = as_host board guests who (what.Disable member) may.0 (disable_says board guests member made may.1)
says board guests who what.Reset made may = as_host board guests who what.Reset may (reset_says board guests)
