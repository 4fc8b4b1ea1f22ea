-- A right-hand side in the part of the records from its first record on: its steps count from there.
-- Assumes nothing.
use Prim.Native.Nat.{ℕ, ◌<◌}
use native.Mathlib.Omega.{arith}
use mathlib.Core.Path.{◌≡◌}
use lib.ListN.{length, length-drop}
use Rattle.std.specs.Prelude as code
use Rattle.lustre.specs.Expr.{size}
use Rattle.lustre.specs.Infer.{infer}
use Rattle.lustre.specs.declared.Records.{Records}
use Rattle.standing.proofs.Inversions.{expr_record}
use Rattle.standing.proofs.Parts.{part, part_is, expr_in}
use Rattle.lines.specs.declared.Lines.{Lines}
use Rattle.lines.specs.declared.Spot.{Spot}
use Rattle.types.specs.Number.{asHint}
use Rattle.types.specs.declared.context.Context.{Context}
use Rattle.types.specs.declared.Typ.{Typ}
use Rattle.rules.specs.World.{source_of}
use Rattle.rules.specs.Post.{Given, Done, Inferring}
use Rattle.types.specs.declared.Typed as answer
use Rattle.rules.proofs.Laws.{lower, at_end}
use Rattle.infer.specs.Post.{Few, GivenWhole}
use Rattle.infer.proofs.Steps.{hint_low}

module _ {ctx : Context} {start : ℕ} (g : GivenWhole ctx start) where
  pub side_inside : start < length ctx.records.kinds.now
  side_inside = (expr_record (source_of ctx.records g.W.text) g.e start g.stands).in_kinds

  pub side_words : start < length ctx.records.words.now
  side_words = (expr_record (source_of ctx.records g.W.text) g.e start g.stands).in_words

  -- the part of the records from there on
  module _ (side : Records) (k : side.kinds.now ≡ part ctx.records.kinds.now start) (w : side.words.now ≡ part ctx.records.words.now start) where
    -- it has no more records than the whole
    pub side_few : Few side
    side_few = rw (k, part_is ctx.records.kinds.now start) (omega (arith, length-drop start ctx.records.kinds.now, g.few))

    -- the side stands at its start
    abbrev pub side_given : Given ctx side 0
    side_given = record {
      W = g.W;
      e = g.e;
      stands = rw (k, w) (expr_in ctx.records.kinds.now ctx.records.words.now g.W.text start g.e 0 start (omega arith) g.stands);
      d = 1;
      top = omega arith;
      deep = omega (arith, g.shallow.deep);
      casts = g.shallow.casts;
    }

    pub side_done : (h : code.Option Typ) {q : Spot} {l l' : Lines} {r : code.Option answer.Typed} → Inferring ctx side 0 h q l r l'
        → Done g.W.number g.W.text q (infer g.W.Γ q.function 0 g.e (asHint g.W.text h)) (size g.e) 127 l r l'
    side_done h d = at_end (omega arith) (lower (omega (arith, hint_low h)) (d side_given))
