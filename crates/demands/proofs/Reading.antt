-- The statements of specs/Reading.antt on reading and flattening: spelled records are tidy, what was flattened is read back, what is read
-- flattens back, equal parts are equal trees, and records that refusal 5 passes are a project's.
-- Assumes nothing.
use mathlib.Core.Path.{◌≡◌, refl, ap, sym, subst, ◌∙◌}
use mathlib.Core.List.{[], ◌∷◌, ◌++◌, append_cancel_right}
use mathlib.Core.Option.{Option, none, some}
use Prim.Native.Nat.{ℕ}
use lib.ListN.{length}
use native.Mathlib.Omega.{arith}
use Rattle.lustre.specs.Name.{Name}
use Rattle.lustre.specs.Records.{WordClass, no_word, a_name, a_count, a_length, a_truth, any_word, a_byte, word_class, spell_as, spell}
use Rattle.lustre.specs.Project.{Project}
use Rattle.lustre.specs.Grammar.{Tree, one, a_project, Got, got, stuck, read_project, whole, flat_part, flat_parts}
use Rattle.lustre.specs.Answer.{place_in, no_project, project_in}
use Rattle.demands.specs.Reading.{Writable, SpelledTidy, FlattensBack, EqualParts, WholeProject}
pub use Rattle.demands.proofs.ReadBack.{reads_back, same_parts}
use Rattle.demands.proofs.FlatBack.{written, flat_append}

-- a spelled record keeps its kind, and spelling it again changes nothing
spelled_again : (o : Option WordClass) (k w : ℕ) (t : Name) → ((spell_as o k w t).kind ≡ k) × (spell_as o k (spell_as o k w t).number (spell_as o k w t).text ≡ spell_as o k w t)
unfolding spell_as
spelled_again none k w t = (refl, refl)
spelled_again (some no_word) k w t = (refl, refl)
spelled_again (some a_name) k w t = (refl, refl)
spelled_again (some a_count) k w t = (refl, refl)
spelled_again (some a_length) k w t = (refl, refl)
spelled_again (some a_truth) k w t = (refl, refl)
spelled_again (some any_word) k w t = (refl, refl)
spelled_again (some a_byte) k w t = (refl, refl)

pub spelled_tidy : SpelledTidy
unfolding spell
spelled_tidy ρ [] ws = tt
spelled_tidy ρ (k ∷ ks) [] = tt
spelled_tidy ρ (k ∷ ks) (w ∷ ws) =
    let r = spell_as (word_class k) k w (ρ w) in
    let s = spelled_again (word_class k) k w (ρ w) in
    (ap (λ (i : ℕ). spell_as (word_class i) i r.number r.text) s.0 ∙ s.1, spelled_tidy ρ ks ws)

pub flattens_back : FlattensBack
unfolding flat_parts
flattens_back c rs v rest t q =
    let m = written (c ∷ []) (λ x. x.0) rs v rest q in
    subst (λ (x : Tree c). Writable c x × (rs ≡ flat_part c x rest)) (sym m.1) (m.2.writable.0, m.2.flat t)

pub equal_parts : EqualParts
equal_parts c v w part j k t u p q =
    let a = flattens_back c (part ++ j) v j t p in
    let b = flattens_back c (part ++ k) w k u q in
    let x = append_cancel_right part (flat_part c v []) j (a.1 ∙ flat_append c v j a.0) in
    let y = append_cancel_right part (flat_part c w []) k (b.1 ∙ flat_append c w k b.0) in
    (same_parts c v w [] [] a.0 b.0 (sym x ∙ y)).0

pub whole_project : WholeProject
unfolding no_project read_project whole place_in project_in
whole_project rs t q = by (read_project rs) refl q
  where
    by : (g : Got Project) → read_project rs ≡ g → place_in (length rs) (whole g) ≡ none → Writable (one a_project) (project_in (whole g)) × (rs ≡ flat_part (one a_project) (project_in (whole g)) [])
    by (got P []) e n = flattens_back (one a_project) rs P [] t e
    by (got P (r ∷ rest)) e n = let z : ◌≡◌ {A = ℕ} 0 1 = cc in absurd (omega arith)
    by (stuck rest) e n = let z : ◌≡◌ {A = ℕ} 0 1 = cc in absurd (omega arith)
