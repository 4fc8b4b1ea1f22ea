-- How the recursion goes on behind the judged head of a construct: a call behind `called`, a struct value behind `record_of`, an iterator
-- behind `iterated`, and a fold behind `fold_inputs`. Assumes nothing.
use Prim.Native.Nat.{ℕ}
use mathlib.Core.Path.{◌≡◌, refl, sym, ap, ◌∙◌}
use mathlib.Core.Bool.{true, false}
use mathlib.Core.List.{List, ◌++◌, map, append_assoc}
use mathlib.Core.Option.{Option, none, some}
use lib.ListN.{length}
use Rattle.std.specs.Prelude as code
use Rattle.std.specs.Prelude.{Some}
use borrow.Author.Tests.{eq-eqb}
use Rattle.lustre.specs.Name.{Name}
use Rattle.lustre.specs.Types.{Ty, Named}
use Rattle.lustre.specs.Expr.{IterKind, Fold}
use Rattle.lustre.specs.Project.{Port}
use Rattle.lustre.specs.Line.{Note, Out, plain, named, ◌>>=◌, ◌>>◌}
use Rattle.lustre.specs.Answer.{no_value}
use Rattle.lustre.specs.Infer.{Typing, if_found, arguments, outputs_type, call_of, call_rule, values, missing, struct_of, struct_rule, arrays, same_lengths, iterate_of, iterate_rule, iterate_as, seed_rule, seed_agrees}
use Rattle.lines.specs.Lines.{Noted, Said}
use Rattle.lines.specs.declared.Lines.{Lines}
use Rattle.lines.specs.declared.Spot.{Spot}
use Rattle.lines.proofs.Laws.{said_add, said_return, said_pass, said_try, said_go, said_stop, said_then}
use Rattle.types.specs.Value.{asTy}
use Rattle.types.specs.declared.Typ.{Typ}
use Rattle.rules.specs.World.{World}
use Rattle.rules.specs.Post.{Concludes, Failed, TypeIs}
use Rattle.rules.specs.Ports.{Callable}
use Rattle.rules.specs.Structs.{Fields}
use Rattle.rules.specs.Iterators.{Function, TwoInputs, element_end, fold_end}
use Rattle.rules.specs.declared.iterators.Callee.{Callee}
use Rattle.rules.specs.declared.iterators.FoldInputs.{FoldInputs}
use Rattle.rules.proofs.Laws.{gave, refused, after, passed, with}
use Rattle.rules.proofs.IteratorLaws.{output_is, two_are}

-- what follows a sequence follows its last part
bind_assoc : {A B C : Type 0} (m : Out A) (f : A → Out B) (k : B → Out C) → ((m >>= f) >>= k) ≡ (m >>= λ a. (f a >>= k))
unfolding ◌>>=◌
bind_assoc (none, ns) f k = refl
bind_assoc {A} {B} {C} (some a, ns) f k = go (f a)
  where
    go : (x : Out B) → ((x.0, ns ++ x.1) >>= k) ≡ ((x >>= k).0, ns ++ (x >>= k).1)
    go (none, ms) = refl
    go (some b, ms) = ap (λ (l : List Note). ((k b).0, l)) (append_assoc ns ms (k b).1)

module _ {ks ws sc : List ℕ} {W : World ks ws sc} (at : ℕ) {q : Spot} {l : Lines} where
  -- the arguments of a call, and the type of its outputs
  pub call_done : {name count p high : ℕ} {l₁ l₂ : Lines} (g : Callable W at name count q l p l₁) (args : List Typing) (hint : Option Ty) (t : Typ)
      → length args ≡ count → Said W.number q (arguments W.Γ at (W.text name) args g.sig.inputs) (some tt) l₁ l₂
      → TypeIs W.text (outputs_type g.sig.outputs) high t
      → Concludes W.number W.text q (call_rule W.Γ q.function at (W.text name) args hint) high l (Some t) l₂
  unfolding call_rule call_of if_found
  call_done g args hint t c d k = rw g.node (after (said_add refl g.noted) (passed _ (eq-eqb _ _ (c ∙ sym g.many)) (after d (gave k refl))))

  -- the field values of a struct, and the fields that are missing
  pub struct_done : {name list high : ℕ} {l₁ l₂ l₃ : Lines} (g : Fields W name l list l₁) (vs : List (Name × Typing)) (hint : Option Ty) (t : Typ)
      → Said W.number q (values W.Γ at g.fs vs) (some tt) l₁ l₂
      → Noted W.number q (missing at g.fs (map (λ v. v.0) vs)) l₂ l₃
      → TypeIs W.text (Named (W.text name)) high t
      → Concludes W.number W.text q (struct_rule W.Γ at (W.text name) vs hint) high l (Some t) l₃
  unfolding struct_rule struct_of if_found
  struct_done g vs hint t d f k = rw g.is (after (rw g.same at d) (after (said_add refl f) (gave k refl)))

  -- the arrays of an iterator
  module _ {name : ℕ} {c : Callee} {l₁ : Lines} (g : Function W name l c l₁) (k : IterKind) (seed : Option Typing) (operands : List Typing) (hint : Option Ty) where
    -- one is no array
    pub iterate_stop : {l₂ : Lines} → Said W.number q (arrays W.Γ at operands) none l₁ l₂
        → Said W.number q (iterate_rule W.Γ at k (W.text name) seed operands hint) none l l₂
    unfolding iterate_rule iterate_of if_found
    iterate_stop d =
        rw g.node
        (said_then tt refl (said_pass _ g.function)
        (rw (output_is (named at 142 (W.text name)) g.sig.outputs g.outputs) (said_go _ _ refl (said_return _) (said_stop _ refl (rw g.same at d)))))

    module _ (ds : List (ℕ × Ty)) {high : ℕ} {l₂ l₃ : Lines} {r : code.Option Typ} (d : Said W.number q (arrays W.Γ at operands) (some ds) l₁ l₂) where
      -- their lengths differ
      pub iterate_uneven : same_lengths ds ≡ false → Failed q 144 at no_value l₂ r l₃
          → Concludes W.number W.text q (iterate_rule W.Γ at k (W.text name) seed operands hint) high l r l₃
      unfolding iterate_rule iterate_of if_found
      iterate_uneven e f =
          rw g.node
          (passed _ g.function
          (rw (output_is (named at 142 (W.text name)) g.sig.outputs g.outputs) (with _ _ (said_return _) (with _ ds (rw g.same at d) (refused _ e f)))))

      -- or not
      pub iterate_on : same_lengths ds ≡ true → Concludes W.number W.text q (iterate_as W.Γ k at g.sig.inputs seed ds (asTy W.text c.result)) high l₂ r l₃
          → Concludes W.number W.text q (iterate_rule W.Γ at k (W.text name) seed operands hint) high l r l₃
      unfolding iterate_rule iterate_of if_found
      iterate_on e f =
          rw g.node
          (passed _ g.function
          (rw (output_is (named at 142 (W.text name)) g.sig.outputs g.outputs) (with _ _ (said_return _) (with _ ds (rw g.same at d) (passed _ e f)))))

  -- the tests of a fold
  module _ {ps : List Port} {out : Ty} {i : FoldInputs} {l₁ : Lines} (g : TwoInputs W ps out l i l₁) (ds : List (ℕ × Ty)) {high : ℕ} {r : code.Option Typ} where
    -- without a seed
    pub fold_unseeded : {l₂ : Lines} → Concludes W.number W.text q (fold_end W.Γ at (asTy W.text i.acc) none (asTy W.text i.elem) ds out) high l₁ r l₂
        → Concludes W.number W.text q (iterate_as W.Γ Fold at ps none ds out) high l r l₂
    unfolding iterate_as fold_end element_end seed_rule seed_agrees
    fold_unseeded f = rw (two_are (plain at 145) ps g.are) (with _ _ (said_return _) (passed _ g.agree (rw g.same at f)))

    -- with one, which has a type or none
    pub fold_seeded : (seed : Typing) {v : Option Ty} {l₂ l₃ : Lines} → Said W.number q (seed (some (asTy W.text i.acc))) v l₁ l₂
        → Concludes W.number W.text q (fold_end W.Γ at (asTy W.text i.acc) v (asTy W.text i.elem) ds out) high l₂ r l₃
        → Concludes W.number W.text q (iterate_as W.Γ Fold at ps (some seed) ds out) high l r l₃
    unfolding iterate_as fold_end element_end seed_rule ◌>>◌
    fold_seeded seed {v} d f =
        rw (two_are (plain at 145) ps g.are)
        (with _ _ (said_return _) (passed _ g.agree (rw bind_assoc (with _ v (said_try (rw g.same at d)) f))))
