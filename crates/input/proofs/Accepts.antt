-- Accepted input has what specs/Accepted.antt says: no refusal applies to it, so its sizes, names, words, records and levels are in order.
-- Assumes nothing.
use Rattle.std.specs.Prelude.{if◌then◌else◌}
use Prim.Native.Nat.{ℕ, ◌≤◌}
use native.Mathlib.Omega.{arith}
use mathlib.Core.Path.{◌≡◌, refl, ap, sym, subst, ◌∙◌}
use mathlib.Core.Bool.{Bool, true, false, ◌&&◌, and-eq-true_iff}
use mathlib.Core.List.{List, []}
use mathlib.Core.Option as maybe
use Rattle.std.proofs.Common.{None, Some, Ok, Err}
use lib.Dec.{eqb, leb}
use lib.ListN.{length}
use borrow.Author.Tests.{eqb-true, leb-true}
use Rattle.lustre.specs.Names.{names_of, name_at}
use Rattle.lustre.specs.Records.{spell}
use Rattle.lustre.specs.Grammar.{one, a_project, flat_part}
use Rattle.lustre.specs.Answer.{lowest, unless_refused, bad_sizes, too_deep_at, is_blank, spelled, project_records, project_of}
use Rattle.lustre.proofs.Blank.{read_as_lent}
use Rattle.demands.specs.Reading.{Tidy}
use Rattle.demands.proofs.Naming.{accepted_names}
use Rattle.demands.proofs.Reading.{spelled_tidy, whole_project}
use Rattle.records.proofs.Spells.{spell_kinds, spell_past}
use Rattle.input.specs.Input.{passing, judged}
use Rattle.input.specs.Accepted.{Accepts}
use Rattle.lustre.specs.declared.Refusal.{Refusal}
use Rattle.lustre.proofs.Lowest.{passes}
use Rattle.input.proofs.Shallow.{project_shallow}
use Rattle.input.proofs.Numbers.{short_names, numbered, ranged, same_spelling}

-- what a call on accepted, on blank and on refused input goes by
module _ (kinds words text : List ℕ) (work : ℕ) where
  -- accepted input: nothing is refused, it is not blank, and there are so many names
  pub accepted : (n : ℕ) → judged kinds words text work ≡ Ok (Some n)
      → (lowest kinds words text work ≡ maybe.none) × (is_blank kinds text ≡ false) × (length (names_of text) ≡ n)
  unfolding judged passing unless_refused
  accepted n = go (lowest kinds words text work) (is_blank kinds text)
    where
      go : (o : maybe.Option Refusal) (b : Bool) → unless_refused o Err (if b then Ok None else Ok (Some (length (names_of text)))) ≡ Ok (Some n)
          → (o ≡ maybe.none) × (b ≡ false) × (length (names_of text) ≡ n)
      go maybe.none true q = (refl, cc, cc)
      go maybe.none false q = (refl, refl, cc)
      go (maybe.some r) b q = (cc, cc, cc)

  -- a blank file: nothing is refused
  pub blank : judged kinds words text work ≡ Ok None → (lowest kinds words text work ≡ maybe.none) × (is_blank kinds text ≡ true)
  unfolding judged passing unless_refused
  blank = go (lowest kinds words text work) (is_blank kinds text)
    where
      go : (o : maybe.Option Refusal) (b : Bool) → unless_refused o Err (if b then Ok None else Ok (Some (length (names_of text)))) ≡ Ok None
          → (o ≡ maybe.none) × (b ≡ true)
      go maybe.none true q = (refl, refl)
      go maybe.none false q = (refl, cc)
      go (maybe.some r) b q = (cc, cc)

  -- refused input: its refusal is given first
  pub refused : (r : Refusal) → judged kinds words text work ≡ Err r → lowest kinds words text work ≡ maybe.some r
  unfolding judged passing unless_refused
  refused r = go (lowest kinds words text work) (is_blank kinds text)
    where
      go : (o : maybe.Option Refusal) (b : Bool) → unless_refused o Err (if b then Ok None else Ok (Some (length (names_of text)))) ≡ Err r → o ≡ maybe.some r
      go maybe.none true q = cc
      go maybe.none false q = cc
      go (maybe.some s) b q = let z : s ≡ r = cc in ap maybe.some z

-- a test that refuses where it is false is true where it does not refuse
held : (t : Bool) → ◌≡◌ {A = maybe.Option ℕ} (if t then maybe.none else maybe.some 0) maybe.none → t ≡ true
held true q = refl
held false q = cc

-- where refusal 1 passes there are as many words as kinds, and few of both
sized : (ks ws text : List ℕ) → bad_sizes ks ws text ≡ maybe.none → (length ks ≡ length ws) × (length ks ≤ 4096)
unfolding bad_sizes
sized ks ws text q =
    let all = (and-eq-true_iff (eqb (length ks) (length ws) && leb (length ks) 4096) (leb (length text) 16384)).0 (held _ q) in
    let few = (and-eq-true_iff (eqb (length ks) (length ws)) (leb (length ks) 4096)).0 all.0 in
    (eqb-true (length ks) (length ws) few.0, leb-true (length ks) 4096 few.1)

-- so accepted input has each of the facts
pub accepts : Accepts
unfolding spelled project_of
accepts ks ws text work n q =
    let a = accepted ks ws text work n q in
    let h = passes ks ws text work a.0 in
    let lent = read_as_lent ks ws text a.1 in
    let size = sized ks ws text h.sizes in
    let names = accepted_names text h.named in
    let numbering = numbered (names_of text) names (short_names text h.named) in
    let P = project_of ks ws text in
    let tree = whole_project (project_records ks ws text) (subst Tidy (sym lent) (spelled_tidy (name_at (names_of text)) ks ws)) h.project in
    let same : spell numbering.text ks ws ≡ flat_part (one a_project) P [] = same_spelling numbering.text (name_at (names_of text)) (length (names_of text)) numbering.is 0 ks ws h.ranged ∙ sym lent ∙ tree.1 in
    record {
      same = size.0;
      few = size.1;
      names = names;
      numbering = numbering;
      ranged = ranged (length (names_of text)) 0 ks ws size.0 h.ranged;
      stands = record {
        flat = same ∙ ap (flat_part (one a_project) P) (sym (spell_past numbering.text ks ws (length ks) (omega arith)));
        before = omega (arith, spell_kinds numbering.text ks ws, ap length same);
        within = omega arith;
        writable = tree.0;
      };
      shallow = project_shallow P tree.0 (ap too_deep_at (sym tree.1) ∙ h.shallow);
    }
