-- Struct values: the name that is meant, the fields that are missing, and the names that are given.
-- Assumes nothing.
use Rattle.std.specs.Prelude.{if◌then◌else◌, Some, None}
use Prim.Native.Nat.{ℕ}
use native.Mathlib.Decide.{ℕ_discrete}
use mathlib.Core.Path.{◌≡◌, refl, sym, ap, ◌∙◌}
use mathlib.Core.List.{List, [], ◌∷◌, ◌++◌}
use mathlib.Core.Bool.{Bool, true, false, ◌||◌, or-true, or-false}
use lib.Dec.{eqb}
use borrow.Author.Tests.{eq-eqb, ne_eqb}
use Rattle.lustre.specs.Name.{Name, ◌is◌, ◌among◌, mem}
use Rattle.lustre.specs.Project.{Port}
use Rattle.lustre.specs.Line.{named}
use Rattle.lustre.specs.Resolve.{Scope}
use Rattle.lustre.specs.Infer.{resolved_name, missing}
use Rattle.lines.specs.Lines.{Noted}
use Rattle.lines.specs.declared.Lines.{Lines}
use Rattle.lines.specs.declared.Spot.{Spot}
use Rattle.lines.proofs.Laws.{noted_none, noted_append}
use Rattle.loops.specs.Rows.{has, Connected}
use Rattle.types.specs.Value.{Naming, Injective, asTy}
use Rattle.types.specs.declared.Typ.{Typ}
use Rattle.types.proofs.Values.{bottom_cases, view_array, view_flat}
use Rattle.types.proofs.Truths.{not_so}
use Rattle.demands.proofs.Orders.{is_test}
use Rattle.demands.proofs.Sets.{mem_eq, mem_ne, mem_snoc}
use Rattle.lustre.specs.declared.NameId.{NameId}
use Rattle.lustre.specs.declared.Records.{Records}
use Rattle.rules.specs.World.{PortsOf}
use Rattle.rules.specs.Marks.{Marked}
use Rattle.rules.specs.Walk.{Walked}
use Rattle.rules.specs.declared.walk.Ports.{Ports}
use Rattle.rules.proofs.Rules.{is_named}
use Rattle.rules.proofs.Walks.{Left, left_first, left_name, left_next, left_none}

module _ (Γ : Scope) (x : Name) (ρ : Naming) (t : Typ) where
  pub name_array : (t.levels ≡ 0 → ⊥) → resolved_name Γ x (asTy ρ t) ≡ x
  unfolding resolved_name
  name_array h = rw (view_array ρ t h)

  pub name_basic : t.levels ≡ 0 → (t.base ≡ 33 → ⊥) → resolved_name Γ x (asTy ρ t) ≡ x
  unfolding resolved_name
  name_basic z h = rw (view_flat ρ t z) (bottom_cases (λ u. resolved_name Γ x u ≡ x) ρ t.base t.name (λ e. absurd (h e)) (λ e. refl) (λ f g. refl))

  pub name_named : t.levels ≡ 0 → t.base ≡ 33 → resolved_name Γ x (asTy ρ t) ≡ ρ t.name
  unfolding resolved_name
  name_named z h = rw (is_named ρ t z h)

-- ---- the fields that are not given

-- one field's note, and those of the others
missing_more : (step : ℕ) (ps : List Port) (p : Port) (others : List Port) (xs : List Name) → ps ≡ p ∷ others
    → missing step ps xs ≡ (if p.0 among xs then [] else named step 128 p.0 ∷ []) ++ missing step others xs
unfolding missing
missing_more step ps p others xs e = rw e (go (p.0 among xs))
  where
    go : (b : Bool) → (if b then missing step others xs else named step 128 p.0 ∷ missing step others xs) ≡ (if b then [] else named step 128 p.0 ∷ []) ++ missing step others xs
    go true = refl
    go false = refl

-- the notes on the fields that are left are all that is missing
pub record Missed (r : Records) {list : ℕ} (g : PortsOf r list) (w : Ports) (marks : List ℕ) (step : ℕ) (q : Spot) (l l' : Lines) : Type 0 where
  pub ports : Left r g w
  pub rest : (num : Name → ℕ) → ((i : ℕ) → num (g.text i) ≡ i) → (xs : List Name) → Marked g.text xs marks → {l₁ : Lines}
      → Noted num q (missing step ports.rest xs) l' l₁ → Noted num q (missing step g.ps xs) l l₁

module _ {r : Records} {list : ℕ} {g : PortsOf r list} {w v : Ports} {marks : List ℕ} {step : ℕ} {q : Spot} {l l' : Lines} (m : Missed r g w marks step q l l') where
  -- the next field is given, or has its line
  pub missed_next : {p : NameId × ℕ} (d : Walked w (Some p) v) {l₁ : Lines}
      → ((num : Name → ℕ) (x : Name) → num x ≡ p.0.number → Noted num q (if has marks 0 p.0.number then [] else named step 128 x ∷ []) l' l₁)
      → Missed r g v marks step q l l₁
  missed_next {p} d n = record {
    ports = left_next m.ports d;
    rest = λ num b xs t s. m.rest num b xs t (
        let f = left_first m.ports d in
        let e : g.text p.0.number ≡ f.p.0 = rw (left_name m.ports d) f.name.text in
        let h : has marks 0 p.0.number ≡ (f.p.0 among xs) = t p.0.number p.0.below ∙ ap (λ (x : Name). x among xs) e in
        rw (missing_more step m.ports.rest f.p f.others xs f.are, ← h) (noted_append (n num f.p.0 (rw (← e) (b p.0.number))) s));
  }

  pub missed_end : Walked w None v → (num : Name → ℕ) → ((i : ℕ) → num (g.text i) ≡ i) → (xs : List Name) → Marked g.text xs marks → Noted num q (missing step g.ps xs) l l'
  unfolding missing
  missed_end d num b xs t = m.rest num b xs t (rw (left_none m.ports d) noted_none)

-- ---- the names that are given

-- no name is
pub marks_none : (ρ : Naming) (g : List ℕ) → ((n : ℕ) → has g 0 n ≡ false) → Marked ρ [] g
unfolding mem
marks_none ρ g e n h = e n

-- one name more is
pub marks_more : (ρ : Naming) → Injective ρ → (xs : List Name) {g g' : List ℕ} (name : ℕ) → Connected g 0 name g' → Marked ρ xs g → Marked ρ (xs ++ (ρ name ∷ [])) g'
marks_more ρ inj xs {g} name c m n h = c.edges 0 n h ∙ go (ℕ_discrete n name) ∙ sym (mem_snoc ◌is◌ (ρ n) (ρ name) xs)
  where
    go : Dec (n ≡ name) → (has g 0 n || eqb n name) ≡ (ρ n among (ρ name ∷ xs))
    go (yes e) = rw (eq-eqb n name e, or-true) (rw e (sym (mem_eq ◌is◌ (ρ name) (ρ name) xs (is_test.self (ρ name)))))
    go (no d) = rw (ne_eqb n name d, or-false) (m n h) ∙ sym (mem_ne ◌is◌ (ρ n) (ρ name) xs (not_so (ρ n is ρ name) (λ q. d (inj n name (is_test.same (ρ n) (ρ name) q)))))
