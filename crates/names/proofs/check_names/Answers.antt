-- `names::check_names` meets its contract.
use Rattle.std.proofs.Common.{rules, tests, ◌≡◌, eqb, Some, refl, arith, true, [], ◌∷◌}
use Rattle.std.proofs.lemmas.Bool.Decides.{Decides-eqb}
use Rattle.std.proofs.lemmas.Slice.Eq.{strip_suffix_is}
use Rattle.std.proofs.lemmas.Fn.{always_returns_same}
use Rattle.lustre.specs.Names.{split, is_name}
use Rattle.names.specs.Scan.{piece_of}
use Rattle.names.proofs.Checks.{Cut, cut_closed, cut_open, passed_none, passed_bad, passed_more, passed_all}
use Rattle.names.proofs.check_names.Goals.{In-Some, In-Some-strip_suffix}
use Rattle.names.proofs.check_names.Goals as goal

-- what this turn's piece is
cut : (c : In-Some) → Cut c.loop-piece.piece-iterator.rest.now c.in-Some.piece.now c.next.new.self.rest.now
cut c =
    let s = c.in-Some.ensures.steps in
    record {
      parts = s.0;
      i = s.1.0;
      long = s.1.1;
      first = (s.1.2 (λ b. eqb b 0) (always_returns_same _ _ _ (λ a r f k. search (rules, tests)))).1;
      some_byte = s.2;
    }

pub loop-piece-init : goal.loop-piece-init
loop-piece-init c = let p = passed_none c.args.text.now in search (rules, p)

-- or else it is open
pub returns-in_default-2 : goal.returns-in_default-2
unfolding is_name
returns-in_default-2 c =
    let told = strip_suffix_is Decides-eqb c.in-Some.piece.now (0 ∷ []) c.strip_suffix.result c.strip_suffix.ensures.cases in
    passed_bad _ _ _ _ c.loop-piece.invariant _ _ (cut_open _ _ _ (cut (goal.at.returns-in_default-2 c).In-Some) (rw c.in_default.is at told)) refl

-- where it ends in a zero byte, its name is the next
closed : (c : In-Some-strip_suffix) → split c.loop-piece.piece-iterator.rest.now ≡ piece_of c.in-Some-strip_suffix.name.now true ∷ split c.next.new.self.rest.now
closed c = cut_closed _ _ _ (cut (goal.at-In-Some-strip_suffix c).In-Some) _ (strip_suffix_is Decides-eqb _ (0 ∷ []) (Some c.in-Some-strip_suffix.name) c.in-Some-strip_suffix.ensures.cases)

pub returns-in_default : goal.returns-in_default
returns-in_default c = passed_bad _ _ _ _ c.loop-piece.invariant _ _ (closed (goal.at.returns-in_default c).In-Some-strip_suffix) c.if-is_name.ensures

pub loop-piece-preserved : goal.loop-piece-preserved
loop-piece-preserved c = passed_more _ _ _ _ c.loop-piece.invariant _ _ (closed (goal.at.loop-piece-preserved c).In-Some-strip_suffix) c.if-is_name.ensures

pub overflow_add-n : goal.overflow_add-n
overflow_add-n c = omega (arith, (loop-piece-preserved c).few)

pub returns : goal.returns
returns c = passed_all _ _ _ _ c.loop-piece.invariant (search rules)
