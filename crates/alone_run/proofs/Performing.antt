-- What a performed line makes of the guest, and what it is shown.
use Rattle.std.proofs.Common.{◌≡◌, ℕ, ◌+◌, Bool, List, [], ◌∷◌, ◌++◌, Option, Some, None, refl, sym, ap, ◌∙◌, subst, append_assoc, append-nil, ◌≤◌, length, codes}
use Rattle.std.specs.Prelude.{unwrap_or, option_map, drop}
use Rattle.std.proofs.lemmas.Option.{same_Some, none-some, slice_get_within, get_or_from_slice_get}
use Rattle.std.proofs.lemmas.List.{drop_more, drop_all}
use Rattle.std.specs.List.{slice_get}
use Rattle.legacy_regs.specs.declared.device.Kind.{Kind}
use Rattle.group_calls.specs.declared.member.MemberMade.{MemberMade}
use Rattle.group_calls.specs.declared.lone.LoneEvent.{LoneEvent}
use Rattle.group_calls.specs.Member.{IsMemberMade}
use Rattle.group_calls.specs.Lone.{lone_reply}
use Rattle.board_script.specs.declared.script.ActorLine.{ActorLine}
use Rattle.board_script.specs.Script.{Whole}
use Rattle.board_script.specs.declared.script.Setup.{Setup}
use Rattle.board_script.specs.declared.script.What.{What}
use Rattle.board_script.specs.declared.script.What.TheVariants as what
use Rattle.lone_device.specs.Past.{AreReplies}
use Rattle.guest_lines.specs.Lines.{event_of}
use Rattle.guest_lines.specs.Earlier.{has_io}
use Rattle.alone_run.specs.declared.guest.Guest.{Guest}
use Rattle.alone_run.specs.Transcript.{with_event, events, shown, transcript, made_for, alone_part, alone_text}
use Rattle.alone_run.specs.Kept.{Stands, IsReady, IsEvent, io_after, after, event_for, reply_to, shown_for, Shows, SoFar}

-- ---- I/O

pub io_step : (io : Bool) (w : What) → io_after io w ≡ unwrap_or (elim w [ what.Io on ↦ Some on | _ ↦ None ]) io
io_step io (what.BarRead offset count queue once) = refl
io_step io (what.BarWrite offset bytes queue once) = refl
io_step io (what.Mem addr bytes) = refl
io_step io (what.Peek addr count) = refl
io_step io (what.Msix on) = refl
io_step io (what.Io on) = refl
io_step io (what.Cfg offset count) = refl
io_step io what.Irqs = refl
io_step io (what.Poll queue) = refl
io_step io (what.Serve queue) = refl
io_step io (what.WorkerPoll member queue) = refl
io_step io (what.Frame member frame) = refl
io_step io (what.Flr member) = refl
io_step io (what.Disable member) = refl
io_step io what.Reset = refl

-- a line that asks the device leaves I/O
pub io_stays : (kind : Kind) (io : Bool) (w : What) (event : LoneEvent) → event_of kind io w ≡ Some event → io_after io w ≡ io
io_stays kind io (what.BarRead offset count queue once) event is = refl
io_stays kind io (what.BarWrite offset bytes queue once) event is = refl
io_stays kind io (what.Mem addr bytes) event is = refl
io_stays kind io (what.Peek addr count) event is = refl
io_stays kind io (what.Msix on) event is = refl
io_stays kind io (what.Io on) event is = absurd (none-some event is)
io_stays kind io (what.Cfg offset count) event is = refl
io_stays kind io what.Irqs event is = refl
io_stays kind io (what.Poll queue) event is = refl
io_stays kind io (what.Serve queue) event is = refl
io_stays kind io (what.WorkerPoll member queue) event is = refl
io_stays kind io (what.Frame member frame) event is = refl
io_stays kind io (what.Flr member) event is = refl
io_stays kind io (what.Disable member) event is = refl
io_stays kind io what.Reset event is = refl

-- ---- a line

pub is_ready : (made : MemberMade) (g : Guest) (earlier : List ActorLine) → Stands made g earlier → IsReady g
is_ready made g earlier s = record { member = subst IsMemberMade (sym s.made_is) s.member; replies = subst (λ (m : MemberMade). AreReplies m g.past) (sym s.made_is) s.replies }

module _ (made : MemberMade) (old new : Guest) (earlier : List ActorLine) (line : ActorLine) (s : Stands made old earlier) where
  event_same : event_for old line ≡ event_of made.kind (has_io earlier) line.what
  event_same = λ i. event_of (s.kind_is i) (s.io_is i) line.what

  reply_same : (event : LoneEvent) → lone_reply (made_for old.setup) old.past event ≡ lone_reply made (events made earlier) event
  reply_same event = λ i. lone_reply (s.made_is i) (s.past_is i) event

  stands_by : (o : Option LoneEvent) → event_of made.kind (has_io earlier) line.what ≡ o → IsEvent o → new ≡ after old line.what o → Stands made new (line ∷ earlier)
  stands_by None is event new_is =
      let same : events made (line ∷ earlier) ≡ events made earlier = ap (λ (o : Option LoneEvent). with_event made o (events made earlier)) is in
      record {
        made_is = ap (λ (g : Guest). made_for g.setup) new_is ∙ s.made_is;
        past_is = ap (λ (g : Guest). g.past) new_is ∙ s.past_is ∙ sym same;
        kind_is = ap (λ (g : Guest). g.bar) new_is ∙ s.kind_is;
        io_is = ap (λ (g : Guest). g.io) new_is ∙ ap (λ (io : Bool). io_after io line.what) s.io_is ∙ io_step (has_io earlier) line.what;
        member = s.member;
        replies = subst (AreReplies made) (sym (ap (λ (g : Guest). g.past) new_is)) s.replies;
      }
  stands_by (Some event) is allowed new_is =
      let grown : events made (line ∷ earlier) ≡ record { event = event; reply = lone_reply made (events made earlier) event } ∷ events made earlier
      = ap (λ (o : Option LoneEvent). with_event made o (events made earlier)) is in
      let past : new.past ≡ record { event = event; reply = lone_reply made old.past event } ∷ old.past =
      ap (λ (g : Guest). g.past) new_is ∙ (λ i. record { event = event; reply = lone_reply (s.made_is i) old.past event } ∷ old.past) in
      record {
        made_is = ap (λ (g : Guest). made_for g.setup) new_is ∙ s.made_is;
        past_is = past ∙ (λ i. record { event = event; reply = lone_reply made (s.past_is i) event } ∷ s.past_is i) ∙ sym grown;
        kind_is = ap (λ (g : Guest). g.bar) new_is ∙ s.kind_is;
        io_is = ap (λ (g : Guest). g.io) new_is ∙ s.io_is ∙ sym (io_stays made.kind (has_io earlier) line.what event is) ∙ io_step (has_io earlier) line.what;
        member = s.member;
        replies = subst (AreReplies made) (sym past) (allowed, refl, s.replies);
      }

  pub performed_stands : IsEvent (event_for old line) → new ≡ after old line.what (event_for old line) → Stands made new (line ∷ earlier)
  performed_stands event new_is =
      stands_by (event_of made.kind (has_io earlier) line.what) refl (subst IsEvent event_same event) (new_is ∙ ap (after old line.what) event_same)

  reply_by : (o : Option LoneEvent) → reply_to old o ≡ option_map (lone_reply made (events made earlier)) o
  reply_by None = refl
  reply_by (Some event) = ap Some (reply_same event)

  pub performed_shown : shown_for old.bar old.io line (reply_to old (event_for old line)) ≡ shown made earlier line
  performed_shown = λ i. shown_for (s.kind_is i) (s.io_is i) line ((ap (reply_to old) event_same ∙ reply_by (event_of made.kind (has_io earlier) line.what)) i)

-- one line on
pub line_shown : (made : MemberMade) (front output grown : List ℕ) (old new : Guest) (line : ActorLine) (left lines all : List ActorLine) → left ≡ line ∷ lines
    → Shows old new output grown line → SoFar made old front output left all → SoFar made new front grown lines all
line_shown made front output grown old new line left lines all is shows s = record {
  earlier = line ∷ s.earlier;
  stands = performed_stands made old new s.earlier line s.stands shows.event shows.new_is;
  text =
      let rest : List ℕ = transcript made (line ∷ s.earlier) lines in
      let here : shown_for old.bar old.io line (reply_to old (event_for old line)) ≡ shown made s.earlier line = performed_shown made old new s.earlier line s.stands in
      s.text ∙ ap (λ (l : List ActorLine). output ++ transcript made s.earlier l) is
      ∙ sym (append_assoc output (shown made s.earlier line) rest)
      ∙ ap (λ (words : List ℕ). (output ++ words) ++ rest) (sym here)
      ∙ ap (λ (out : List ℕ). out ++ rest) (sym shows.grown_is);
}

-- the line at a place
pub line_at : (lines : List ActorLine) (index : ℕ) (line : ActorLine) → slice_get lines index ≡ Some line → drop index lines ≡ line ∷ drop (index + 1) lines
line_at lines index line is =
    drop_more lines index line (slice_get_within lines index line is) ∙ ap (λ (l : ActorLine). l ∷ drop (index + 1) lines) (get_or_from_slice_get lines index line line is)

-- ---- the whole text

one_part : (guests : List Setup) (setup : Setup) (lines : List ActorLine) → slice_get guests 0 ≡ Some setup → alone_part guests lines ≡ codes "guest 1\n" ++ transcript (made_for setup) [] lines ++ codes "end\n"
one_part [] setup lines first = absurd cc
one_part (found ∷ others) setup lines first =
    let same : found ≡ setup = same_Some found setup first in
    ap (λ (g : Setup). codes "guest 1\n" ++ transcript (made_for g) [] lines ++ codes "end\n") same

-- all lines are shown, and the text is closed
pub text_whole : (s : Whole) (setup : Setup) (made : MemberMade) (g : Guest) (output grown : List ℕ) (index : ℕ) → slice_get s.guests 0 ≡ Some setup → length s.lines ≤ index
    → made ≡ made_for setup → grown ≡ output ++ codes "end\n" → SoFar made g (codes "guest 1\n") output (drop index s.lines) s.lines → grown ≡ alone_text s
text_whole s setup made g output grown index first past same ended so_far =
    let before : List ℕ = transcript made [] s.lines in
    let shown_all : codes "guest 1\n" ++ before ≡ output =
    so_far.text ∙ ap (λ (l : List ActorLine). output ++ transcript made so_far.earlier l) (drop_all index s.lines past) ∙ append-nil output in
    ended ∙ ap (λ (out : List ℕ). out ++ codes "end\n") (sym shown_all) ∙ append_assoc (codes "guest 1\n") before (codes "end\n")
    ∙ ap (λ (m : MemberMade). codes "guest 1\n" ++ transcript m [] s.lines ++ codes "end\n") same ∙ sym (one_part s.guests setup s.lines first)
