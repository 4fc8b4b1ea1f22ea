-- A blank model file, request 2.1: it has no record, its project is the one without packages, no refusal after 2 applies to it, and where none
-- does it gets a report without lines and edges. The project of any other file is read from the records lent; where there are none, it gets
-- refusal 3 or 5.
-- Assumes nothing.
use Rattle.std.specs.Prelude.{if◌then◌else◌}
use Prim.Native.Nat.{ℕ, ◌≤◌}
use native.Mathlib.Omega.{arith}
use mathlib.Core.Path.{◌≡◌, refl, ap, sym, ◌∙◌}
use mathlib.Core.Bool.{Bool, true, false, ◌&&◌, true≢false}
use mathlib.Core.List.{List, [], ◌∷◌}
use mathlib.Core.Option.{none, some}
use lib.Dec.{eqb}
use lib.ListN.{length}
use borrow.Author.Tests.{ne_eqb, le-leb}
use Rattle.lustre.specs.Names.{bad_name, names_of}
use Rattle.lustre.specs.Records.{Rec, bad_record, spell}
use Rattle.lustre.specs.Grammar.{flat_project}
use Rattle.lustre.specs.Answer.{is_blank, spelled, project_records, project_of, bad_sizes, short_work, no_project, too_deep_at, record_refusal, refuse, lowest, unless_refused, reported, answer, stored_report}
use Rattle.lustre.specs.Computes.{computes}
use Rattle.lustre.specs.declared.Answer.TheVariants.{Report, Refused}
use Rattle.lustre.specs.declared.Refusal.TheVariants.{BadName, NoProject, TooDeep}
use Rattle.lustre.proofs.Lowest.{sizes_pass, work_passes}

-- the length of what is not empty is not 0
some_length : (c : ℕ) (cs : List ℕ) → eqb (length (c ∷ cs)) 0 ≡ false
some_length c cs = ne_eqb (length (c ∷ cs)) 0 (λ e. omega arith)

-- a blank file has no kinds and no text
nothing_lent : (kinds text : List ℕ) → is_blank kinds text ≡ true → (kinds ≡ []) × (text ≡ [])
unfolding is_blank
nothing_lent [] [] b = (refl, refl)
nothing_lent [] (c ∷ cs) b = absurd (true≢false (sym b ∙ some_length c cs))
nothing_lent (k ∷ ks) text b = absurd (true≢false (sym b ∙ ap (λ t. t && eqb (length text) 0) (some_length k ks)))

-- one with a text is not blank
text_lent : (kinds text : List ℕ) → (text ≡ [] → ⊥) → is_blank kinds text ≡ false
unfolding is_blank
text_lent kinds [] t = absurd (t refl)
text_lent [] (c ∷ cs) t = some_length c cs
text_lent (k ∷ ks) (c ∷ cs) t = rw (some_length k ks)

-- no refusal after 2 applies where there are no kinds and there is no text
after_2 : (words : List ℕ)
    → refuse (bad_name []) BadName
    (refuse (bad_record (length (names_of [])) 0 [] words) (record_refusal [])
    (refuse (no_project (project_records [] words [])) NoProject
    (refuse (too_deep_at (project_records [] words [])) TooDeep
    none)))
    ≡ none
unfolding computes
after_2 words = refl

-- the project without packages has no line and no edge
empty_reported : (room : ℕ) → reported room [] ≡ Report 0 0
unfolding computes
empty_reported room = rw (le-leb 0 room (omega arith))

module _ (kinds words text : List ℕ) where
  -- another file's project is read from its records
  pub read_as_lent : is_blank kinds text ≡ false → project_records kinds words text ≡ spelled kinds words text
  unfolding project_records
  read_as_lent b = rw b

  -- what holds of the records of a project without packages and of those lent holds of those that the project is read from
  pub of_both : (P : List Rec → Type 0) → P (flat_project [] []) → P (spelled kinds words text) → P (project_records kinds words text)
  unfolding project_records
  of_both P b s = go (is_blank kinds text)
    where
      go : (t : Bool) → P (if t then flat_project [] [] else spelled kinds words text)
      go true = b
      go false = s

  module _ (b : is_blank kinds text ≡ true) where
    -- it has no record
    pub blank_spelled : spelled kinds words text ≡ []
    unfolding spelled spell
    blank_spelled = rw (nothing_lent kinds text b).0

    -- its project has no package
    pub blank_project : project_of kinds words text ≡ []
    unfolding computes
    blank_project = let none = nothing_lent kinds text b in rw (none.0, none.1)

    -- no refusal after 2 applies to it
    pub blank_passes : (work : ℕ) → bad_sizes kinds words text ≡ none → short_work work ≡ none → lowest kinds words text work ≡ none
    unfolding lowest refuse
    blank_passes work sizes enough = let none = nothing_lent kinds text b in rw (sizes, refuse, enough, refuse, none.0, none.1) (after_2 words)

    -- where none applies it gets a report without lines and edges
    pub blank_answer : (work room : ℕ) → lowest kinds words text work ≡ none → answer kinds words text work room ≡ Report 0 0
    unfolding answer unless_refused
    blank_answer work room q = rw (q, unless_refused, blank_project) (empty_reported room)

    -- of which nothing is stored
    pub blank_stored : stored_report kinds words text ≡ []
    unfolding stored_report computes
    blank_stored = rw blank_project

-- no records, where refusals 1 and 2 do not apply
module _ (kinds words text : List ℕ) (work room : ℕ) (k : kinds ≡ []) (v : words ≡ []) (short : length text ≤ 16384) (enough : 4096 ≤ work) where
  sizes : bad_sizes kinds words text ≡ none
  sizes = sizes_pass kinds words text (ap length (k ∙ sym v)) (rw k (omega arith)) short

  -- without a text the file is blank
  pub without_text : text ≡ [] → is_blank kinds text ≡ true
  unfolding is_blank
  without_text t = rw (k, t)

  -- so it gets the report
  pub blank_reported : text ≡ [] → answer kinds words text work room ≡ Report 0 0
  blank_reported t = let b = without_text t in blank_answer kinds words text b work room (blank_passes kinds words text b work sizes (work_passes work enough))

  -- with a text that is no names it gets refusal 3
  pub no_names_refused : (at : ℕ) → bad_name text ≡ some at → answer kinds words text work room ≡ Refused (BadName at)
  unfolding answer unless_refused lowest refuse
  no_names_refused at e = rw (sizes, refuse, work_passes work enough, refuse, e)

  -- with a text there is nothing to read
  with_text : (text ≡ [] → ⊥) → no_project (project_records kinds words text) ≡ some 0
  unfolding no_project computes
  with_text t = rw (read_as_lent kinds words text (text_lent kinds text t), k)

  -- no record is bad
  none_bad : bad_record (length (names_of text)) 0 kinds words ≡ none
  unfolding bad_record
  none_bad = rw k

  -- so with names it gets refusal 5 at 0
  pub names_refused : (text ≡ [] → ⊥) → bad_name text ≡ none → answer kinds words text work room ≡ Refused (NoProject 0)
  unfolding answer unless_refused lowest refuse
  names_refused t e = rw (sizes, refuse, work_passes work enough, refuse, e, refuse, none_bad, refuse, with_text t)
