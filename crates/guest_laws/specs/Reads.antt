-- What a guest reads is a function of its own history alone. Of this project.
use Rattle.std.specs.Prelude.{◌≡◌, ℕ, Bool, false, List, [], ◌∷◌, ◌++◌, Option, None, Some, map, filter}
use Rattle.group_calls.specs.declared.member.MemberReply.{MemberReply}
use Rattle.group_calls.specs.declared.lone.LoneEvent.{LoneEvent}
use Rattle.group_calls.specs.declared.lone.LoneItem.{LoneItem}
use Rattle.group_calls.specs.MemberEntries.{MemberEntry}
use Rattle.group_calls.specs.Lone.{device_base, device_reply}
use Rattle.member_laws.specs.Own.{before_kill, event_of, own, lone_run}
use Rattle.guest_lines.specs.Lines.{lone_words}
use Rattle.board_script.specs.Script.{Whole}
use Rattle.board_script.specs.Bounds.{IsScript}
use Rattle.journal.specs.Lines.{made_of}
use Rattle.journal.specs.Own.{is_guests}
use Rattle.journal.specs.Journals.{Journal, IsLegalJournal, IsGuestOf}
use Rattle.journal.specs.Heads.{LineEvent, line_events, in_doubt}
use Rattle.guest_laws.specs.Apart.{own_events}

-- ---- own history, in which each item tells whether it is the guest's own event

pub record OwnItem : Type 0 where
  pub guests : Bool
  pub item : LoneItem

abbrev pub with_mark : Bool → Option LoneEvent → MemberReply → List OwnItem → List OwnItem
with_mark guests None reply items = items
with_mark guests (Some event) reply items = record { guests = guests; item = record { event = event; reply = device_reply event reply } } ∷ items

abbrev pub marked_events : ℕ → List MemberEntry → List OwnItem
marked_events g [] = []
marked_events g (e ∷ past) = with_mark (is_guests g e.who e.call) (event_of g (device_base past) e.who e.call) e.reply (marked_events g past)

abbrev pub marked : ℕ → List MemberEntry → List OwnItem
marked g h = marked_events g (before_kill h)

-- without the marks it is own history
abbrev pub MarkedIsOwn : Type 0
MarkedIsOwn = (g : ℕ) (h : List MemberEntry) → map (λ x. x.item) (marked g h) ≡ own g h

-- the guest's own events, with their replies
abbrev pub guests_own : ℕ → List MemberEntry → List LoneItem
guests_own g h = map (λ x. x.item) (filter (λ x. x.guests) (marked g h))

-- ---- what the lines show

-- of two lists, from the latest on, the line of a rank has the event of that rank, and unless it is in doubt it shows the reply
abbrev pub ShowReplies : List LineEvent → List LoneItem → Type 0
ShowReplies [] [] = Unit {0}
ShowReplies (l ∷ lines) (item ∷ items) = (l.event ≡ item.event) × (in_doubt l ≡ false → l.shown ≡ lone_words l.what item.reply) × ShowReplies lines items
ShowReplies _ _ = ⊥

pub record ReadsOwn (s : Whole) (j : Journal) (g : ℕ) : Type 0 where
  -- the lines without an event come after those with one
  pub eventless : List LineEvent
  pub eventful : List LineEvent
  pub parted : line_events s g (j.past g) ≡ eventless ++ eventful
  -- the k-th line with an event shows the reply to the guest's k-th own event
  pub shown : ShowReplies eventful (guests_own g (j.member g))
  -- which is what a lone device replies that is told the events of own history
  pub replies : own g (j.member g) ≡ lone_run (made_of s g) (own_events g (j.member g))

abbrev pub GuestsReadOwn : Type 0
GuestsReadOwn = (s : Whole) (j : Journal) → IsScript s → IsLegalJournal s j → (g : ℕ) → IsGuestOf s g → ReadsOwn s j g

-- ---- so two own histories with the same events are read alike

-- the events of own history, each with its mark
abbrev pub own_story : ℕ → List MemberEntry → List (Bool × LoneEvent)
own_story g h = map (λ x. (x.guests, x.item.event)) (marked g h)

-- of two lists, from the latest on, the lines of a rank have the same event, and where they ask the same and neither is in doubt they show the same
abbrev pub ShowSame : List LineEvent → List LineEvent → Type 0
ShowSame [] [] = Unit {0}
ShowSame (l ∷ lines) (k ∷ others) = (l.event ≡ k.event) × (l.what ≡ k.what → in_doubt l ≡ false → in_doubt k ≡ false → l.shown ≡ k.shown) × ShowSame lines others
ShowSame _ _ = ⊥

-- in two journals, of whatever scripts and whatever the other guests do
abbrev pub SameStoryIsRead : Type 0
SameStoryIsRead =
    (s t : Whole) (j i : Journal) → IsScript s → IsScript t → IsLegalJournal s j → IsLegalJournal t i → (g : ℕ) → IsGuestOf s g → IsGuestOf t g → made_of s g ≡ made_of t g
    → own_story g (j.member g) ≡ own_story g (i.member g) → (a : ReadsOwn s j g) (b : ReadsOwn t i g) → ShowSame a.eventful b.eventful
