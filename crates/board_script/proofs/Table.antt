-- The forms of the table say of a line what its shape says.
use Rattle.std.proofs.Common.{◌≡◌, ℕ, Bool, true, false, List, [], ◌∷◌, Option, Some, None, Result, Ok, Err, refl, ap, subst, sym, ◌∙◌, cond}
use Rattle.std.specs.Prelude.{unwrap_or, codes}
use Rattle.std.specs.Str.{bytes_eq}
use Rattle.std.proofs.lemmas.Slice.Eq.{bytes_eq-Decides}
use Rattle.script_words.specs.declared.cause.Cause.{Cause}
use Rattle.script_words.specs.declared.cause.Cause.TheVariants as cause
use Rattle.script_words.specs.declared.shape.Act.{Act}
use Rattle.script_words.specs.declared.shape.Act.TheVariants as act
use Rattle.script_words.specs.declared.shape.Member.{Member}
use Rattle.script_words.specs.declared.shape.Member.TheVariants as member
use Rattle.script_words.specs.declared.shape.Shape.{Shape}
use Rattle.script_words.specs.declared.shape.Shape.TheVariants as line
use Rattle.script_words.specs.declared.words.Head.{Head}
use Rattle.script_words.specs.declared.words.Head.TheVariants as head
use Rattle.script_words.specs.Words.{words_of, are_words, head_of, one_of, two_of, three_of}
use Rattle.script_words.specs.Parts.{form, none_of, switch_of, access_of, block_of, pairs_of}
use Rattle.script_words.specs.Shape.{form_at, form_of, shape_of}
use Rattle.script_words.specs.Texts.{is_ignored}
use Rattle.board_script.specs.declared.place.Place.{Place}
use Rattle.board_script.specs.SoFar.{SoFar}
use Rattle.board_script.specs.Forms.{forms, first_of, line_says}
use Rattle.board_script.specs.Script.{with_text}
use Rattle.board_script.specs.Shapes.{shape_says, form_says}

-- ---- names

same_or_not : (name word : List ℕ) (b : Bool) (P : List ℕ → Type 0) → bytes_eq name word ≡ b → P word → (bytes_eq name word ≡ false → P name) → P name
same_or_not name word true P e same other = subst P (sym ((bytes_eq-Decides name word).0 e)) same
same_or_not name word false P e same other = other e

-- a name is this word, or it isn't
by_name : (name word : List ℕ) (P : List ℕ → Type 0) → P word → (bytes_eq name word ≡ false → P name) → P name
by_name name word P same other = same_or_not name word (bytes_eq name word) P refl same other

module _ (at : Place) (d : SoFar) where
  abbrev Same : Head → List (List ℕ) → Type 0
  Same first rest = first_of (forms at d) first rest ≡ form_says at d (form_at first rest)

  -- the one form that has the name
  picked : {A : Type 0} (parts : Option A) (says : A → Result SoFar Cause) (shape : A → Shape) → ((x : A) → says x ≡ shape_says at d (shape x)) → unwrap_or (form parts says) (Err cause.Word) ≡ form_says at d (form parts shape)
  picked None says shape same = refl
  picked (Some x) says shape same = same x

  picked_act : {A : Type 0} (parts : Option A) (says : A → Result SoFar Cause) (acts : A → Act) → ((x : A) → says x ≡ shape_says at d (line.Acts (acts x)))
      → unwrap_or (form parts says) (Err cause.Word) ≡ form_says at d (form (form parts acts) (λ a. line.Acts a))
  picked_act None says acts same = refl
  picked_act (Some x) says acts same = same x

  picked_block : (number : List ℕ) (parts : Option (List ℕ × List ℕ × Bool)) (says : List ℕ × List ℕ × Bool → Result SoFar Cause)
      → ((x : List ℕ × List ℕ × Bool) → says x ≡ shape_says at d (line.Guest number (member.Block x.0 x.1 x.2)))
      → unwrap_or (form parts says) (Err cause.Word) ≡ form_says at d (form (form parts (λ m. member.Block m.0 m.1 m.2)) (λ m. line.Guest number m))
  picked_block number None says same = refl
  picked_block number (Some x) says same = same x

  guest_same : (guest name : List ℕ) (rest : List (List ℕ)) → Same (head.Guest guest) (name ∷ rest)
  guest_same guest name rest =
      let P : List ℕ → Type 0 = λ n. Same (head.Guest guest) (n ∷ rest) in
      by_name name (codes "in") P (picked_act (access_of rest) _ (λ a. act.In guest a.0 a.1 a.2) (λ x. refl)) (λ e1.
      by_name name (codes "out") P (picked_act (access_of rest) _ (λ a. act.Out guest a.0 a.1 a.2) (λ x. refl)) (λ e2.
      by_name name (codes "mem") P (picked_act (two_of rest) _ (λ w. act.Mem guest w.0 w.1) (λ x. refl)) (λ e3.
      by_name name (codes "peek") P (picked_act (two_of rest) _ (λ w. act.Peek guest w.0 w.1) (λ x. refl)) (λ e4.
      by_name name (codes "msix") P (picked_act (switch_of rest) _ (λ on. act.Msix guest on) (λ x. refl)) (λ e5.
      by_name name (codes "io") P (picked_act (switch_of rest) _ (λ on. act.Io guest on) (λ x. refl)) (λ e6.
      by_name name (codes "cfg") P (picked_act (two_of rest) _ (λ w. act.Cfg guest w.0 w.1) (λ x. refl)) (λ e7.
      by_name name (codes "irqs") P (picked_act (none_of rest) _ (λ none. act.Irqs guest) (λ x. refl)) (λ e8.
      by_name name (codes "poll") P (picked_act (one_of rest) _ (λ queue. act.Poll guest queue) (λ x. refl)) (λ e9.
      rw (e1, e2, e3, e4, e5, e6, e7, e8, e9) refl)))))))))

  worker_same : (worker name : List ℕ) (rest : List (List ℕ)) → Same (head.Worker worker) (name ∷ rest)
  worker_same worker name rest =
      let P : List ℕ → Type 0 = λ n. Same (head.Worker worker) (n ∷ rest) in
      by_name name (codes "serve") P (picked_act (one_of rest) _ (λ queue. act.Serve worker queue) (λ x. refl)) (λ e1.
      by_name name (codes "poll") P (picked_act (two_of rest) _ (λ w. act.WorkerPoll worker w.0 w.1) (λ x. refl)) (λ e2.
      rw (e1, e2) refl))

  host_same : (name : List ℕ) (rest : List (List ℕ)) → Same (head.Name (codes "host")) (name ∷ rest)
  host_same name rest =
      let P : List ℕ → Type 0 = λ n. Same (head.Name (codes "host")) (n ∷ rest) in
      by_name name (codes "frame") P (picked_act (two_of rest) _ (λ w. act.Frame w.0 w.1) (λ x. refl)) (λ e1.
      by_name name (codes "flr") P (picked_act (one_of rest) _ (λ m. act.Flr m) (λ x. refl)) (λ e2.
      by_name name (codes "disable") P (picked_act (one_of rest) _ (λ m. act.Disable m) (λ x. refl)) (λ e3.
      by_name name (codes "reset") P (picked_act (none_of rest) _ (λ none. act.Reset) (λ x. refl)) (λ e4.
      rw (e1, e2, e3, e4) refl))))

  kind_same : (number name : List ℕ) (rest : List (List ℕ)) → Same (head.Name (codes "guest")) (number ∷ name ∷ rest)
  kind_same number name rest =
      let P : List ℕ → Type 0 = λ n. Same (head.Name (codes "guest")) (number ∷ n ∷ rest) in
      by_name name (codes "block") P (picked_block number (block_of rest) _ (λ x. refl)) (λ e1.
      by_name name (codes "net") P (picked (two_of rest) _ (λ w. line.Guest number (member.Net w.0 w.1)) (λ x. refl)) (λ e2.
      rw (e1, e2) refl))

  behind_guest : (rest : List (List ℕ)) → Same (head.Name (codes "guest")) rest
  behind_guest [] = refl
  behind_guest (number ∷ []) = refl
  behind_guest (number ∷ name ∷ rest) = kind_same number name rest

  behind_host : (rest : List (List ℕ)) → Same (head.Name (codes "host")) rest
  behind_host [] = refl
  behind_host (name ∷ rest) = host_same name rest

  name_same : (name : List ℕ) (rest : List (List ℕ)) → Same (head.Name name) rest
  name_same name rest =
      let P : List ℕ → Type 0 = λ n. Same (head.Name n) rest in
      by_name name (codes "board") P (picked (three_of rest) _ (λ w. line.Board w.0 w.1 w.2) (λ x. refl)) (λ e1.
      by_name name (codes "guest") P (behind_guest rest) (λ e2.
      by_name name (codes "host") P (behind_host rest) (λ e3.
      by_name name (codes "go") P (picked (pairs_of rest) _ (λ pairs. line.Go pairs) (λ x. refl)) (λ e4.
      rw (e1, e2, e3, e4) refl))))

  same : (first : Head) (rest : List (List ℕ)) → Same first rest
  same (head.Guest guest) [] = refl
  same (head.Guest guest) (name ∷ rest) = guest_same guest name rest
  same (head.Worker worker) [] = refl
  same (head.Worker worker) (name ∷ rest) = worker_same worker name rest
  same (head.Name name) rest = name_same name rest

  same_if : (are : Bool) (first : List ℕ) (rest : List (List ℕ)) → cond are (first_of (forms at d) (head_of first) rest) (Err cause.Word) ≡ form_says at d (cond are (form_of (first ∷ rest)) None)
  same_if true first rest = same (head_of first) rest
  same_if false first rest = refl

  pub line_says-shape : (words : List (List ℕ)) → line_says at d words ≡ form_says at d (cond (are_words words) (form_of words) None)
  unfolding line_says
  line_says-shape [] = refl
  line_says-shape (first ∷ rest) = same_if (are_words (first ∷ rest)) first rest

  pub with_text-shape : (text : List ℕ) → is_ignored text ≡ false → with_text at d text ≡ form_says at d (shape_of text)
  with_text-shape text e = ap (λ (b : Bool). cond b (Ok d) (line_says at d (words_of text))) e ∙ line_says-shape (words_of text)
