-- From the check of the input and the judging of accepted input to the whole call.
-- Assumes nothing.
use Rattle.std.specs.Prelude.{if◌then◌else◌}
use Prim.Native.Nat.{ℕ, ◌<◌, ◌≤◌, min}
use mathlib.Core.Path.{◌≡◌, refl, sym, ap, subst, ◌∙◌}
use mathlib.Core.Bool.{Bool, true, false}
use mathlib.Core.List.{List, [], flat_map}
use mathlib.Core.Option.{Option, none, some}
use lib.Dec.{leb, ltb}
use lib.ListN.{length, get_or, replicate}
use lib.Seq.{take-nil}
use native.Mathlib.Omega.{arith}
use borrow.Author.Tests.{ltb-true, ltb-false}
use Rattle.lustre.specs.Name.{mem}
use Rattle.lustre.specs.Names.{names_of}
use Rattle.lustre.specs.Records.{word_classes, class_in, word_class, in_class}
use Rattle.lustre.specs.Project.{Project}
use Rattle.lustre.specs.Report.{report, followed}
use Rattle.lustre.specs.Answer.{refusal_of, answer, lowest, reported, writes, stored_report, work_after, short_work, project_of}
use Rattle.lustre.specs.declared.Line.{Line}
use Rattle.lustre.specs.declared.Answer.{Answer}
use Rattle.lustre.specs.declared.Answer.TheVariants.{Report, Refused, MoreLines}
use Rattle.lustre.specs.declared.Refusal.{Refusal}
use Rattle.input.specs.Input.{Checked, judged}
use Rattle.std.proofs.Common.{None, Some, Ok, Err}
use Rattle.lustre.proofs.Lowest.{unless_none, unless_some, reports, passes}
use Rattle.lustre.proofs.Blank.{blank_answer, blank_stored}
use Rattle.input.proofs.Accepts.{accepted, blank, refused, accepts}
use Rattle.lines.specs.Lines.{room}
use Rattle.scope.specs.Model.{Model}
use Rattle.tables.specs.Entered.{AliasesBelow}
use Rattle.project.specs.Call.{over_words, buffer_after, Called, JudgedAs}
use Rattle.project.proofs.Models.{model}
use Rattle.project.proofs.Lines.{report_stored}

module _ (ks ws text : List ℕ) (work : ℕ) where
  -- accepted input is reported
  pub answer_accepted : (n room : ℕ) → judged ks ws text work ≡ Ok (Some n) → answer ks ws text work room ≡ reported room (project_of ks ws text)
  unfolding answer
  answer_accepted n room e = unless_none Refused (reported room (project_of ks ws text)) (lowest ks ws text work) (accepted ks ws text work n e).0

  -- a blank file gets the report without lines and edges
  pub answer_blank : (room : ℕ) → judged ks ws text work ≡ Ok None → answer ks ws text work room ≡ Report 0 0
  answer_blank room e = let b = blank ks ws text work e in blank_answer ks ws text b.1 work room b.0

  -- refused input gets its refusal
  pub answer_refused : (r : Refusal) (room : ℕ) → judged ks ws text work ≡ Err r → answer ks ws text work room ≡ Refused r
  unfolding answer
  answer_refused r room e = unless_some Refused (reported room (project_of ks ws text)) (lowest ks ws text work) r (refused ks ws text work r e)

  -- accepted input is answered with its number of names
  pub count_is : (n : ℕ) → judged ks ws text work ≡ Ok (Some n) → length (names_of text) ≡ n
  count_is n e = (accepted ks ws text work n e).2

  -- what `judge` asks of accepted input
  pub model_accepted : (n : ℕ) → judged ks ws text work ≡ Ok (Some n) → (g : Model ks ws) × (g.names ≡ n)
  model_accepted n e = (model (accepts ks ws text work n e), count_is n e)

  -- the number of each alias's name is below the number of names
  pub aliases_accepted : (n : ℕ) → judged ks ws text work ≡ Ok (Some n) → AliasesBelow ks ws n
  unfolding word_class class_in word_classes mem in_class
  aliases_accepted n e at l k =
      let a = accepts ks ws text work n e in
      let r : in_class (length (names_of text)) (word_class 4) (get_or ws at 0) ≡ true = subst (λ (j : ℕ). in_class (length (names_of text)) (word_class j) (get_or ws at 0) ≡ true) k (a.ranged at l) in
      subst (λ (m : ℕ). get_or ws at 0 < m) (count_is n e) (ltb-true (get_or ws at 0) (length (names_of text)) r)

  -- accepted input comes with enough work memory
  pub work_accepted : (n : ℕ) → judged ks ws text work ≡ Ok (Some n) → 4096 ≤ work
  unfolding short_work
  work_accepted n e = go (ltb work 4096) refl
    where
      go : (t : Bool) → ltb work 4096 ≡ t → 4096 ≤ work
      go true h =
          let s : short_work work ≡ none = (passes ks ws text work (accepted ks ws text work n e).0).enough in
          let q : ◌≡◌ {A = Option ℕ} (some work) none = sym (simp h) ∙ s in
          absurd (let z : ◌≡◌ {A = ℕ} 0 1 = cc in omega arith)
      go false h = ltb-false work 4096 h

-- after a report and after refusal 7 the lines are written
pub reported_writes : (room : ℕ) (P : Project) → writes (reported room P) ≡ true
unfolding reported writes
reported_writes room P = go (leb (length (report P)) room)
  where
    go : (t : Bool) → writes (if t then Report (length (report P)) (followed P) else MoreLines (min (length (report P)) 18_446_744_073_709_551_615)) ≡ true
    go true = refl
    go false = refl

-- what is answered with a report is reported
pub answer_report : (ks ws text : List ℕ) (work room n e : ℕ) → answer ks ws text work room ≡ Report n e → reported room (project_of ks ws text) ≡ Report n e
unfolding answer
answer_report ks ws text work room n e q = sym (reports (lowest ks ws text work) (reported room (project_of ks ws text)) (ap refusal_of q)).1 ∙ q

-- no line over what was lent
over_none : (lent : List ℕ) → over_words [] lent ≡ lent
unfolding over_words flat_map
over_none lent = rw (take-nil {A = Line} (room lent))

-- a report of which nothing is stored leaves the lines as they were and the work memory zero
pub nothing_stored : (ks ws text work lent : List ℕ) → answer ks ws text (length work) (room lent) ≡ Report 0 0 → stored_report ks ws text ≡ []
    → (buffer_after ks ws text (length work) lent ≡ lent) × (work_after ks ws text (room lent) work ≡ replicate (length work) 0)
unfolding buffer_after work_after writes
nothing_stored ks ws text work lent is none_stored = (rw (is, buffer_after, none_stored, over_none lent), rw (is, work_after))

module _ (ks ws text work lent : List ℕ) where
  -- the call meets its contract on refused input: nothing is changed
  pub called_refused : (i : Checked) (r : Refusal) → i ≡ judged ks ws text (length work) → i ≡ Err r → Called ks ws text work lent (Refused r) work lent
  unfolding buffer_after work_after writes
  called_refused i r j e =
      let is : answer ks ws text (length work) (room lent) ≡ Refused r = answer_refused ks ws text (length work) r (room lent) (sym j ∙ e) in
      record { answered = sym is; lines = rw (is, buffer_after); worked = rw (is, work_after) }

  -- on a blank file, by the contract of `report_blank`: no line is written, and the work memory is zero
  pub called_blank : {r : Answer} {work' : List ℕ} → Ok None ≡ judged ks ws text (length work)
      → (r ≡ Report 0 0) × ((n : ℕ) → length work ≡ n → work' ≡ replicate n 0) → Called ks ws text work lent r work' lent
  called_blank j h =
      let is : answer ks ws text (length work) (room lent) ≡ Report 0 0 = answer_blank ks ws text (length work) (room lent) (sym j) in
      let left = nothing_stored ks ws text work lent is (blank_stored ks ws text (blank ks ws text (length work) (sym j)).1) in
      record { answered = h.0 ∙ sym is; lines = sym left.0; worked = h.1 (length work) refl ∙ sym left.1 }

  -- and on accepted input, by the contract of `judge`
  pub called_accepted : {r : Answer} {work' lent' : List ℕ} (n : ℕ) → Ok (Some n) ≡ judged ks ws text (length work)
      → (work' ≡ replicate (length work) 0) × ((g : Model ks ws) → g.names ≡ n → JudgedAs g lent r lent') → Called ks ws text work lent r work' lent'
  unfolding buffer_after work_after
  called_accepted n j h =
      let e = sym j in
      let a = accepts ks ws text (length work) n e in
      let is : answer ks ws text (length work) (room lent) ≡ reported (room lent) (project_of ks ws text) = answer_accepted ks ws text (length work) n (room lent) e in
      let wrote : writes (reported (room lent) (project_of ks ws text)) ≡ true = reported_writes (room lent) (project_of ks ws text) in
      let judges = h.1 (model a) (count_is ks ws text (length work) n e) in
      record {
        answered = judges.answered ∙ sym is;
        lines = judges.lines ∙ rw (is, wrote, buffer_after, report_stored a);
        worked = h.0 ∙ rw (is, wrote, work_after);
      }
