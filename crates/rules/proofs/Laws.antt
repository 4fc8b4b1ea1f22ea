-- How what the rules say follows one another, and what the entries of the scope say.
-- Assumes nothing.
use Prim.Native.Nat.{ℕ, ◌+◌, ◌≤◌}
use native.Mathlib.Omega.{arith}
use mathlib.Core.Path.{◌≡◌, refl, sym, ap, subst, ◌∙◌}
use mathlib.Core.Bool.{Bool, true, false}
use mathlib.Core.List.{List}
use mathlib.Core.Option.{Option, none, some}
use Rattle.std.specs.Prelude as code
use Rattle.std.specs.Prelude.{Some, None, IfSome}
use Rattle.std.proofs.lemmas.Option.{IfSome_then}
use Rattle.lustre.specs.Name.{Name}
use Rattle.lustre.specs.Types.{Ty}
use Rattle.lustre.specs.Project.{Port}
use Rattle.lustre.specs.Line.{Note, Out, plain, named, return, fail, require, ◌>>=◌, ◌>>◌}
use Rattle.lustre.specs.Infer.{res, agrees}
use Rattle.lustre.specs.Answer.{no_value}
use Rattle.standing.specs.Standing.{source}
use Rattle.lines.specs.Lines.{Said}
use Rattle.lines.specs.declared.Lines.{Lines}
use Rattle.lines.specs.declared.Spot.{Spot}
use Rattle.lines.proofs.Laws.{noted_plain, noted_named, said_return, said_pass, said_fail, said_refuse, said_stop, said_go, said_halt, said_then}
use Rattle.types.specs.Value.{Naming, Injective, bottom, asTy, Bottom}
use Rattle.types.specs.Scope.{Compares, Resolves, KindOf, kind_of}
use Rattle.types.specs.declared.Typ.{Typ}
use Rattle.rules.specs.World.{World, Listed, Found, absent, present, PortsHere}
use Rattle.rules.specs.Post.{Done, Concludes, Failed, TypeIs}
use Rattle.types.specs.declared.Typed as found_as

pub false_true {ℓ} : {A : Type ℓ} → false ≡ true → A
false_true h = absurd (let z : ◌≡◌ {A = ℕ} 0 1 = cc in omega arith)

-- different numbers have different texts
pub apart : {ks ws sc : List ℕ} (W : World ks ws sc) → Injective W.text
apart W m n e = sym (W.back m) ∙ ap W.number e ∙ W.back n

-- ---- what the code asks of types, in a world

module _ {ks ws sc : List ℕ} (W : World ks ws sc) where
  -- the answers of `compatible`, `resolve` and `basic_kind`
  pub agreed : (a b : Typ) {r : Bool} → Compares ks ws sc a b r → agrees W.Γ (asTy W.text a) (asTy W.text b) ≡ r
  agreed a b d = sym (d W.text (apart W) W.Γ.alias W.alias)

  pub resolved : {t u : Typ} → Resolves ks ws sc t u → res W.Γ (asTy W.text t) ≡ asTy W.text u
  resolved d = sym (d.is W.text W.Γ.alias W.alias)

  pub kind_resolved : {t : Typ} {k : code.Option ℕ} → KindOf ks ws sc t k → kind_of (res W.Γ (asTy W.text t)) ≡ k
  kind_resolved d = sym (d.is W.text W.Γ.alias W.alias)

-- ---- a type or none

module _ {num : Name → ℕ} {ρ : Naming} {q : Spot} {l : Lines} where
  -- no type
  pub ended : {s : Out Ty} {high : ℕ} {r : code.Option Typ} {l' : Lines} → r ≡ None → Said num q s none l l' → Concludes num ρ q s high l r l'
  ended h d = rw h (record { said = d; low = tt })

  -- a type, and nothing more
  pub returned : {s : Out Ty} {high : ℕ} (t : Typ) → t.levels ≤ high → s ≡ return (asTy ρ t) → Concludes num ρ q s high l (Some t) l
  returned t n h = record { said = rw h (said_return (asTy ρ t)); low = n }

  -- the same of a type that is known by what it is
  pub gave : {s : Out Ty} {u : Ty} {high : ℕ} {t : Typ} → TypeIs ρ u high t → s ≡ return u → Concludes num ρ q s high l (Some t) l
  gave {t = t} g h = returned t g.low (h ∙ ap return (sym g.is))

  -- a type with no lengths
  pub returned_bottom : {s : Out Ty} {high k n : ℕ} {t : Typ} → Bottom k n t → s ≡ return (bottom ρ k n) → Concludes num ρ q s high l (Some t) l
  returned_bottom b h = returned _ (omega (arith, b.flat)) (h ∙ ap return (sym (b.is ρ)))

  module _ {high c at : ℕ} {r : code.Option Typ} {l' : Lines} where
    -- a line, and no type
    pub failed : Failed q c at no_value l r l' → Concludes num ρ q (fail (plain at c)) high l r l'
    failed f = ended f.none (said_fail (noted_plain f.put))

    pub failed_of : {w : ℕ} (x : Name) → num x ≡ w → Failed q c at w l r l' → Concludes num ρ q (fail (named at c x)) high l r l'
    failed_of x e f = ended f.none (said_fail (noted_named x e f.put))

    -- a test that does not pass
    pub refused : {b : Bool} (k : Out Ty) → b ≡ false → Failed q c at no_value l r l' → Concludes num ρ q (require b (plain at c) >> k) high l r l'
    refused k h f = ended f.none (said_halt k refl (said_refuse h (noted_plain f.put)))

  module _ {high : ℕ} {r : code.Option Typ} {l' : Lines} where
    -- something said before whose value is used
    pub with : {A : Type 0} {s : Out A} (k : A → Out Ty) (a : A) {l₁ : Lines} → Said num q s (some a) l l₁ → Concludes num ρ q (k a) high l₁ r l' → Concludes num ρ q (s >>= k) high l r l'
    with k a p f = record { said = said_go k a refl p f.said; low = f.low }

    -- something said before
    pub after : {A : Type 0} {s : Out A} {k : Out Ty} {a : A} {l₁ : Lines} → Said num q s (some a) l l₁ → Concludes num ρ q k high l₁ r l' → Concludes num ρ q (s >> k) high l r l'
    after {a = a} p f = record { said = said_then a refl p f.said; low = f.low }

    -- a test that passes
    pub passed : {b : Bool} {k : Out Ty} (x : Note) → b ≡ true → Concludes num ρ q k high l r l' → Concludes num ρ q (require b x >> k) high l r l'
    passed x h f = after (said_pass x h) f

    -- a weaker bound
    pub weaker : {s : Out Ty} {least : ℕ} → least ≤ high → Concludes num ρ q s least l r l' → Concludes num ρ q s high l r l'
    weaker e d = record { said = d.said; low = IfSome_then r d.low (λ t n. omega (arith, n)) }

    -- a part with a type
    pub go : {s : Out Ty} (k : Ty → Out Ty) {end₁ high₁ : ℕ} {l₁ : Lines} {p : found_as.Typed}
        → Done num ρ q s end₁ high₁ l (Some p) l₁ → Concludes num ρ q (k (asTy ρ p.typ)) high l₁ r l' → Concludes num ρ q (s >>= k) high l r l'
    go k {p = p} d f = with k (asTy ρ p.typ) d.said f

  -- a part without one
  pub stop : {s : Out Ty} (k : Ty → Out Ty) {end₁ high₁ high : ℕ} {l' : Lines} → Done num ρ q s end₁ high₁ l None l' → Concludes num ρ q (s >>= k) high l None l'
  stop k d = ended refl (said_stop k refl d.said)

  -- what a rule gives, with the place behind the expression
  pub closed : {s : Out Ty} {end high next : ℕ} {t : Typ} {l' : Lines} → Concludes num ρ q s high l (Some t) l' → next ≡ end → Done num ρ q s end high l (Some (record { typ = t; next = next })) l'
  closed d e = record { said = d.said; low = d.low; next = e }

  pub closed_none : {s : Out Ty} {end high : ℕ} {l' : Lines} → Concludes num ρ q s high l None l' → Done num ρ q s end high l None l'
  closed_none d = record { said = d.said; low = tt; next = tt }

  module _ {s : Out Ty} {end high : ℕ} {r : code.Option found_as.Typed} {l' : Lines} where
    -- a weaker bound, and another name for the end
    pub lower : {high₁ : ℕ} → high₁ ≤ high → Done num ρ q s end high₁ l r l' → Done num ρ q s end high l r l'
    lower e d = record { said = d.said; low = IfSome_then r d.low (λ t n. omega (arith, n)); next = d.next }

    pub at_end : {end₁ : ℕ} → end₁ ≡ end → Done num ρ q s end₁ high l r l' → Done num ρ q s end high l r l'
    at_end e d = rw e at d

-- ---- entries of the scope

-- no entry
pub found_not : {A : Type 0} {P : ℕ → A → Type 0} {e : ℕ} {o : Option A} → Found P e o → e ≡ 0 → o ≡ none
found_not absent h = refl
found_not (present p) h = absurd (omega arith)

-- the record p declares a name
pub record Entry {A : Type 0} (P : ℕ → A → Type 0) (p : ℕ) (o : Option A) : Type 0 where
  pub a : A
  pub is : o ≡ some a
  pub there : P p a

pub found : {A : Type 0} {P : ℕ → A → Type 0} {e p : ℕ} {o : Option A} → Found P e o → e ≡ p + 1 → Entry P p o
found absent h = absurd (omega arith)
found {P = P} {p = q} (present {p} {a} x) h =
    let z : p ≡ q = omega arith in
    record { a = a; is = refl; there = subst (λ (i : ℕ). P i a) z x }

-- the ports that stand behind it
abbrev pub ports_led : {ks ws : List ℕ} {ρ : Naming} {p : ℕ} {o : Option (List Port)} → Entry (λ j ps. Listed (source ks ws ρ) ps (j + 1)) p o → PortsHere ks ws (p + 1)
ports_led {ρ = ρ} w = record { text = ρ; ps = w.a; listed = w.there }
