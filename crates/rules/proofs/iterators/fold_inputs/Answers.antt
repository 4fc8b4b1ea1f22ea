-- `rules::iterators::fold_inputs` meets its contract: two ports stand in the list, or the definition refuses. Assumes nothing.
use native.Mathlib.Omega.{arith}
use mathlib.Core.Path.{refl, ◌∙◌}
use Rattle.lustre.specs.Line.{plain}
use Rattle.lustre.specs.Infer.{iterate_as}
use Rattle.lines.proofs.Laws.{noted_plain, said_return, said_refuse, said_fail, said_stop, said_go, said_halt}
use Rattle.rules.specs.World.{PortsOf}
use Rattle.rules.proofs.Laws.{agreed}
use Rattle.rules.proofs.Places.{type_there, read_is, read_next}
use Rattle.rules.proofs.PortLaws.{pair, pair_later}
use Rattle.rules.proofs.IteratorLaws.{two_not, two_are}
use Rattle.rules.proofs.iterators.fold_inputs.Goals as goal

pub offset_bounds-ctx-list : goal.offset_bounds-ctx-list
offset_bounds-ctx-list c = omega (arith, c.requires.listed.stand.head.in_words)

pub returns-then-ctx-list-ne2 : goal.returns-then-ctx-list-ne2
unfolding iterate_as
returns-then-ctx-list-ne2 c =
    λ W ps p.
    let f = c.fail.ensures in
    rw f.none (λ seed ds. rw (two_not (plain c.args.at 145) ps (λ e. c.if-ctx-list-ne2.true (p.stand.many ∙ e))) (said_stop _ refl (said_fail (noted_plain f.put))))

pub read_type-a-requires : goal.read_type-a-requires
read_type-a-requires c = type_there (pair c.requires c.if-ctx-list-ne2.false).typed

pub overflow_add-a : goal.overflow_add-a
overflow_add-a c = let d = pair c.requires c.if-ctx-list-ne2.false in omega (arith, read_next d.typed c.read_type-a.ensures, d.head.in_kinds)

pub read_type-requires : goal.read_type-requires
read_type-requires c = let d = pair c.requires c.if-ctx-list-ne2.false in type_there (pair_later c.requires d (read_next d.typed c.read_type-a.ensures))

pub returns-then-not-compatible : goal.returns-then-not-compatible
unfolding iterate_as
returns-then-not-compatible c =
    λ W ps p.
    let g : PortsOf c.args.ctx.now.records c.args.list = record { text = W.text; ps = ps; listed = p } in
    let d = pair g c.if-ctx-list-ne2.false in
    let a = read_is d.typed c.read_type-a.ensures in
    let f = c.fail-then-not-compatible.ensures in
    rw f.none
    (λ seed ds.
    rw (two_are (plain c.args.at 145) ps d.are, ← a.is)
    (said_go _ _ refl (said_return _) (said_halt _ refl (said_refuse (agreed W _ _ c.compatible.ensures ∙ c.if-not-compatible.true) (noted_plain f.put)))))

pub returns : goal.returns
returns c =
    λ W ps p.
    let g : PortsOf c.args.ctx.now.records c.args.list = record { text = W.text; ps = ps; listed = p } in
    let d = pair g c.if-ctx-list-ne2.false in
    let a = read_is d.typed c.read_type-a.ensures in
    let b = read_is (pair_later g d (read_next d.typed c.read_type-a.ensures)) c.read_type.ensures in
    record {
      x = d.p.0;
      y = d.r.0;
      are = rw (a.is, b.is) d.are;
      agree = agreed W _ _ c.compatible.ensures ∙ c.if-not-compatible.false;
      low = a.low;
      low_elem = b.low;
      same = refl;
    }
