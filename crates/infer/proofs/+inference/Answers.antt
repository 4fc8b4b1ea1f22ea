-- The proof of the cycle of calls of `infer`, one answer for each goal. Assumes nothing.
use Prim.Native.Nat.{ℕ}
use native.Mathlib.Omega.{arith}
use native.Mathlib.Nat.{pos_of_ne-zero}
use mathlib.Core.Path.{refl}
use Rattle.std.specs.Prelude.{◌+◌, option_copied, None, Some}
use Rattle.std.proofs.Common.{rules}
use Rattle.lustre.specs.Expr.{Map, Fold}
use Rattle.standing.proofs.Sizes.{size_pos}
use Rattle.rules.specs.Post.{Given}
use Rattle.rules.specs.Lists.{GivenArrays}
use Rattle.rules.proofs.Laws.{apart, closed, closed_none}
use Rattle.rules.proofs.StructLaws.{marks_none, marks_more}
use Rattle.infer.proofs.Steps.{copied_or}
use Rattle.infer.proofs.Arguments as arguments
use Rattle.infer.proofs.Cases as cases
use Rattle.infer.proofs.ItemLaws as item-laws
use Rattle.infer.proofs.ArrayLaws as array-laws
use Rattle.infer.proofs.ValueLaws as value-laws
use Rattle.infer.proofs.Iterators as iterators
use Rattle.infer.proofs.+inference.Goals as goal
use Rattle.infer.proofs.+inference.Goals.{arrays-Joined-next, arrays-in-Some, arrays-in-None, binary-Joined-is_integer, binary-then-is_integer, binary-else-is_integer, infer-in_default-via-then-this-lt67, infer-in_default-via-else-this-lt67+else-this-lt79, fold-Joined-seed, fold-in-Some, fold-in-None}

-- ---- calls

pub arg-port_type-want-requires : goal.arg-port_type-want-requires
arg-port_type-want-requires t c = record { text = c.requires.W.text; t = c.requires.t; typed = c.requires.typed }

pub arg-returns-in_default : goal.arg-returns-in_default
arg-returns-in_default t c = λ g. arguments.arg_skipped g c.port_type-want.ensures c.in_default.ensures c.skip.ensures

pub arg-returns : goal.arg-returns
arg-returns t c = λ g. arguments.arg_done g c.port_type-want.ensures c.in-Some.ensures c.unless_agrees.ensures

pub args-loop-init : goal.args-loop-init
args-loop-init t c = (omega arith, λ g. arguments.left_start g (omega arith))

pub args-arg-seen-requires : goal.args-arg-seen-requires
args-arg-seen-requires t c =
    (omega (arith, c.decreases), arguments.left_given (c.loop.invariant.1 c.requires) (λ z. omega (arith, c.loop-test.true)))

pub args-loop-preserved : goal.args-loop-preserved
args-loop-preserved t c =
    let u = (c.arg-seen.ensures (arguments.left_given (c.loop.invariant.1 c.requires) (λ z. omega (arith, c.loop-test.true)))).next in
    (omega arith, λ g. arguments.left_step (c.loop.invariant.1 g) (λ z. omega (arith, c.loop-test.true)) (c.arg-seen.ensures _) (omega (arith, c.loop-test.true)))

pub args-returns : goal.args-returns
args-returns t c = λ g. arguments.left_end (c.loop.invariant.1 g) (omega arith)

pub call-bounds-side-at : goal.call-bounds-side-at
call-bounds-side-at t c = (arguments.call_list c.requires.0 c.requires.1).in_words

pub call-called-requires : goal.call-called-requires
call-called-requires t c = c.requires.0.W

pub call-name-name-requires-clause-inside : goal.call-name-name-requires-clause-inside
call-name-name-requires-clause-inside t c = cases.inside_words c.requires.0

pub call-name-name-requires-clause-small : goal.call-name-name-requires-clause-small
call-name-name-requires-clause-small t c = arguments.call_small c.requires.0 c.requires.1

pub call-returns-in_err-port : goal.call-returns-in_err-port
call-returns-in_err-port t c = λ h g. rw c.from_residual.ensures (arguments.call_refused g c.requires.1 h (rw c.name-name.ensures at c.in_err-port.ensures))

pub call-args-a-requires : goal.call-args-a-requires
call-args-a-requires t c =
    (omega (arith, c.decreases, (arguments.call_list c.requires.0 c.requires.1).in_kinds), arguments.call_given c.requires.0 c.requires.1 (rw c.name-name.ensures at c.in_ok-port.ensures))

pub call-outputs_type-requires : goal.call-outputs_type-requires
call-outputs_type-requires t c = arguments.call_outputs c.requires.0 c.requires.1 (rw c.name-name.ensures at c.in_ok-port.ensures) (rw c.name-name.ensures at c.args-a.ensures)

pub call-returns : goal.call-returns
call-returns t c = λ h g. arguments.call_done g c.requires.1 (rw c.name-name.ensures at c.in_ok-port.ensures) (rw c.name-name.ensures at c.args-a.ensures) h c.outputs_type.ensures

-- ---- arrays

pub item-returns-in_err-a : goal.item-returns-in_err-a
item-returns-in_err-a t c = λ g. rw c.from_residual.ensures (item-laws.item_stop g c.in_err-a.ensures)

pub item-returns : goal.item-returns
item-returns t c = λ g. rw c.then_some.ensures (item-laws.item_done g c.in_ok-a.ensures _ c.item_rule.ensures)

pub items-loop-init : goal.items-loop-init
items-loop-init t c = (omega arith, λ g. item-laws.left_start g (omega arith))

pub items-item-requires : goal.items-item-requires
items-item-requires t c =
    (omega (arith, c.decreases), item-laws.left_given (c.loop.invariant.1 c.requires) (λ z. omega (arith, c.loop-test.true)))

pub items-returns-in_err-next : goal.items-returns-in_err-next
items-returns-in_err-next t c = λ g. rw c.from_residual.ensures (item-laws.left_stop (c.loop.invariant.1 g) (λ z. omega (arith, c.loop-test.true)) (c.in_err-next.ensures _))

pub items-loop-preserved : goal.items-loop-preserved
items-loop-preserved t c =
    let u = (c.in_ok-next.ensures (item-laws.left_given (c.loop.invariant.1 c.requires) (λ z. omega (arith, c.loop-test.true)))).next in
    (omega (arith, u), λ g. item-laws.left_step (c.loop.invariant.1 g) (λ z. omega (arith, c.loop-test.true)) (c.in_ok-next.ensures _) (omega (arith, c.loop-test.true)))

pub items-returns : goal.items-returns
items-returns t c = λ g. item-laws.left_end (c.loop.invariant.1 g) (omega arith)

pub array-bounds-side-at : goal.array-bounds-side-at
array-bounds-side-at t c = cases.inside_words c.requires.0

pub array-returns-in_default : goal.array-returns-in_default
array-returns-in_default t c = λ g. item-laws.array_unknown g c.requires.1 _ c.element_hint-element.ensures c.if-count-eq0.true c.in_default.is c.fail.ensures

pub array-array-requires : goal.array-array-requires
array-array-requires t c = omega (arith, item-laws.array_room c.requires.0 c.requires.1 _ c.element_hint-element.ensures c.in-Some.is)

pub array-returns-then-count-eq0 : goal.array-returns-then-count-eq0
array-returns-then-count-eq0 t c = λ g. item-laws.array_empty g c.requires.1 _ c.element_hint-element.ensures c.if-count-eq0.true c.in-Some.is c.array.ensures

pub array-infer-requires : goal.array-infer-requires
array-infer-requires t c = (omega (arith, c.decreases, cases.inside c.requires.0), item-laws.array_first c.requires.0 c.requires.1 c.if-count-eq0.false)

pub array-returns-in_err-first : goal.array-returns-in_err-first
array-returns-in_err-first t c = λ g. rw c.from_residual.ensures (item-laws.array_stop g c.requires.1 c.if-count-eq0.false _ (rw (← c.as_ref-h.ensures.value) at c.element_hint-element.ensures) c.in_err-first.ensures)

pub array-items-requires : goal.array-items-requires
array-items-requires t c =
    let f = item-laws.first_here c.requires.0 c.requires.1 c.if-count-eq0.false in
    let p = (c.in_ok-first.ensures (item-laws.array_first c.requires.0 c.requires.1 c.if-count-eq0.false)).next in
    (omega (arith, c.decreases, cases.inside c.requires.0, p, size_pos f.e), item-laws.array_given c.requires.0 c.requires.1 c.if-count-eq0.false _ (rw (← c.as_ref-h.ensures.value) at c.element_hint-element.ensures) c.in_ok-first.ensures _ (omega (arith, pos_of_ne-zero c.if-count-eq0.false)))

pub array-returns-in_err-next : goal.array-returns-in_err-next
array-returns-in_err-next t c = λ g. rw c.from_residual-in_err-next.ensures (item-laws.array_refused g c.requires.1 c.if-count-eq0.false _ (rw (← c.as_ref-h.ensures.value) at c.element_hint-element.ensures) c.in_ok-first.ensures (omega (arith, pos_of_ne-zero c.if-count-eq0.false)) c.in_err-next.ensures)

pub array-overflow_cast-count : goal.array-overflow_cast-count
array-overflow_cast-count t c = omega (arith, c.args.side.now.few, item-laws.array_fits c.requires.0 c.requires.1)

pub array-array-requires-2 : goal.array-array-requires-2
array-array-requires-2 t c = omega (arith, item-laws.array_low c.requires.0 c.requires.1 c.if-count-eq0.false _ (rw (← c.as_ref-h.ensures.value) at c.element_hint-element.ensures) c.in_ok-first.ensures)

pub array-returns : goal.array-returns
array-returns t c = λ g. item-laws.array_done g c.requires.1 c.if-count-eq0.false _ (rw (← c.as_ref-h.ensures.value) at c.element_hint-element.ensures) c.in_ok-first.ensures (omega (arith, pos_of_ne-zero c.if-count-eq0.false)) c.in_ok-next.ensures (omega (arith, c.args.side.now.few, item-laws.array_fits c.requires.0 c.requires.1)) c.array-2.ensures

-- ---- struct values

pub value-returns-in_default : goal.value-returns-in_default
value-returns-in_default t c = λ g. value-laws.value_unknown g c.in_default.ensures.port c.put.ensures c.skip.ensures

pub value-port_type-want-requires : goal.value-port_type-want-requires
value-port_type-want-requires t c = record { text = c.requires.W.text; t = value-laws.value_type c.requires _ c.in-Some.ensures.port; typed = value-laws.value_typed c.requires _ c.in-Some.ensures.port }

pub value-returns-in_default-infer : goal.value-returns-in_default-infer
value-returns-in_default-infer t c = λ g. value-laws.value_skipped g _ c.in-Some.ensures.port c.port_type-want.ensures c.in_default-infer.ensures c.skip-in_default-infer.ensures

pub value-returns : goal.value-returns
value-returns t c = λ g. value-laws.value_done g _ c.in-Some.ensures.port c.port_type-want.ensures c.in-Some-infer.ensures c.unless_agrees.ensures

pub values-loop-init : goal.values-loop-init
values-loop-init t c = (omega arith, λ g. value-laws.left_start g (omega arith) (marks_none g.W.text _ c.new-marks.ensures))

pub values-name-requires-clause-inside : goal.values-name-requires-clause-inside
values-name-requires-clause-inside t c = (value-laws.left_given (c.loop.invariant.1 c.requires) (λ z. omega (arith, c.loop-test.true))).head.in_words

pub values-name-requires-clause-small : goal.values-name-requires-clause-small
values-name-requires-clause-small t c = (value-laws.left_given (c.loop.invariant.1 c.requires) (λ z. omega (arith, c.loop-test.true))).name.small

pub values-value-next-requires : goal.values-value-next-requires
values-value-next-requires t c =
    (omega (arith, c.decreases), value-laws.left_given (c.loop.invariant.1 c.requires) (λ z. omega (arith, c.loop-test.true)))

pub values-loop-preserved : goal.values-loop-preserved
values-loop-preserved t c =
    let u = (c.value-next.ensures (value-laws.left_given (c.loop.invariant.1 c.requires) (λ z. omega (arith, c.loop-test.true)))).next in
    (omega (arith, u), λ g. value-laws.left_step (c.loop.invariant.1 g) (λ z. omega (arith, c.loop-test.true)) (marks_more g.W.text (apart g.W) _ _ (rw c.name.ensures at c.insert.ensures.added) (c.loop.invariant.1 g).marked) (c.value-next.ensures _) (omega (arith, c.loop-test.true)))

pub values-returns : goal.values-returns
values-returns t c = λ g. value-laws.left_end (c.loop.invariant.1 g) (omega arith) refl refl

pub build-name-requires-clause-inside : goal.build-name-requires-clause-inside
build-name-requires-clause-inside t c = cases.inside_words c.requires.0

pub build-name-requires-clause-small : goal.build-name-requires-clause-small
build-name-requires-clause-small t c = value-laws.struct_small c.requires.0 c.requires.1

pub build-bounds-side-at : goal.build-bounds-side-at
build-bounds-side-at t c = (value-laws.struct_list c.requires.0 c.requires.1).in_words

pub build-returns-in_err-fields : goal.build-returns-in_err-fields
build-returns-in_err-fields t c = λ h g. rw c.from_residual.ensures (value-laws.struct_unknown g c.requires.1 (rw c.name.ensures at c.struct_name-name.ensures) _ h c.in_err-fields.ensures)

pub build-values-v-requires : goal.build-values-v-requires
build-values-v-requires t c =
    (omega (arith, c.decreases, (value-laws.struct_list c.requires.0 c.requires.1).in_kinds), value-laws.struct_given c.requires.0 c.requires.1 (rw c.name.ensures at c.struct_name-name.ensures) c.args.q c.in_ok-fields.ensures)

pub build-missing-requires : goal.build-missing-requires
build-missing-requires t c = value-laws.struct_fields c.requires.0 c.requires.1 (rw c.name.ensures at c.struct_name-name.ensures) c.args.q c.in_ok-fields.ensures

pub build-returns : goal.build-returns
build-returns t c = λ h g. value-laws.struct_done g c.requires.1 (rw c.name.ensures at c.struct_name-name.ensures) _ c.in_ok-fields.ensures h c.values-v.ensures c.missing.ensures c.named.ensures

-- ---- iterators

pub arrays-loop-init : goal.arrays-loop-init
arrays-loop-init t c = (omega arith, λ g. array-laws.left_start g (omega arith) c.ports_of-inputs.ensures c.new-kept.ensures)

pub arrays-infer-requires : goal.arrays-infer-requires
arrays-infer-requires t c =
    (omega (arith, c.decreases), array-laws.left_given (c.loop.invariant.1 c.requires) (λ z. omega (arith, c.loop-test.true)))

pub arrays-returns-in_err-a : goal.arrays-returns-in_err-a
arrays-returns-in_err-a t c = λ g. rw c.from_residual.ensures (array-laws.left_stop (c.loop.invariant.1 g) (λ z. omega (arith, c.loop-test.true)) c.in_err-a.ensures)

pub arrays-next-requires : goal.arrays-next-requires
arrays-next-requires t c = array-laws.left_walking (c.loop.invariant.1 c.requires)

pub arrays-port_type-requires : goal.arrays-port_type-requires
arrays-port_type-requires t c = array-laws.left_type (c.loop.invariant.1 c.requires) c.in-Some.ensures.steps

-- what is known of the next input where its arms join
arrays-next : (t : ℕ) (c : arrays-Joined-next t) (g : GivenArrays c.args.side.now.ctx c.args.side.now.records c.args.at c.args.list c.args.count)
    → array-laws.Next (c.loop.invariant.1 g).walk c.match-next.want c.next.new.self
arrays-next t c g =
    elim c.match-next.branch [
      | arrays-in-Some w ↦ rw w.want-is (array-laws.next_some _ w.in-Some.ensures.steps w.port_type.ensures)
      | arrays-in-None w ↦ rw w.want-is (array-laws.next_none _ w.in-None.ensures.steps)
    ]

pub arrays-returns-in_err-kept : goal.arrays-returns-in_err-kept
arrays-returns-in_err-kept t c = λ g. rw c.from_residual-in_err-kept.ensures (array-laws.left_refused (c.loop.invariant.1 g) (λ z. omega (arith, c.loop-test.true)) c.in_ok-a.ensures (arrays-next t (goal.at.arrays-returns-in_err-kept t c).Joined-next g) c.in_err-kept.ensures)

pub arrays-loop-preserved : goal.arrays-loop-preserved
arrays-loop-preserved t c =
    let u = (c.in_ok-a.ensures (array-laws.left_given (c.loop.invariant.1 c.requires) (λ z. omega (arith, c.loop-test.true)))).next in
    (omega (arith, u), λ g. array-laws.left_step (c.loop.invariant.1 g) (λ z. omega (arith, c.loop-test.true)) c.in_ok-a.ensures (arrays-next t (goal.at.arrays-loop-preserved t c).Joined-next g) c.in_ok-kept.ensures (omega (arith, c.loop-test.true)))

pub arrays-returns : goal.arrays-returns
arrays-returns t c = λ g. array-laws.left_end (c.loop.invariant.1 g) (omega arith)

pub gather-returns-in_err-c : goal.gather-returns-in_err-c
gather-returns-in_err-c t c = λ g. rw c.from_residual.ensures (iterators.gather_unfit g _ _ _ c.in_err-c.ensures)

pub gather-arrays-requires : goal.gather-arrays-requires
gather-arrays-requires t c = (omega (arith, c.decreases, c.requires.head.in_kinds), iterators.gather_given c.requires c.args.name.number c.args.step c.args.q c.in_ok-c.ensures)

pub gather-returns-in_err-a : goal.gather-returns-in_err-a
gather-returns-in_err-a t c = λ g. rw c.from_residual-in_err-a.ensures (iterators.gather_stop g _ _ _ c.in_ok-c.ensures c.in_err-a.ensures)

pub gather-returns-then-a : goal.gather-returns-then-a
gather-returns-then-a t c = λ g. iterators.gather_done g _ _ _ c.in_ok-c.ensures c.in_ok-a.ensures c.if-a.true

pub gather-returns : goal.gather-returns
gather-returns t c = λ g. iterators.gather_uneven g _ _ _ c.in_ok-c.ensures c.in_ok-a.ensures c.if-a.false c.fail.ensures

pub map-name-requires-clause-inside : goal.map-name-requires-clause-inside
map-name-requires-clause-inside t c = cases.inside_words c.requires.0

pub map-gather-requires : goal.map-gather-requires
map-gather-requires t c =
    let w = iterators.iterates c.requires.0 Map c.args.list c.requires.1.seed c.requires.1.behind in
    (omega (arith, c.decreases, iterators.list_behind c.requires.0 Map c.args.list c.requires.1.seed c.requires.1.behind, w.head.in_kinds), iterators.iterator_given c.requires.0 Map c.args.list c.requires.1.seed c.requires.1.behind)

pub map-name-requires-clause-small : goal.map-name-requires-clause-small
map-name-requires-clause-small t c = (iterators.iterates c.requires.0 Map c.args.list c.requires.1.seed c.requires.1.behind).small

pub map-returns-in_err-g : goal.map-returns-in_err-g
map-returns-in_err-g t c = λ h g. rw c.from_residual.ensures (iterators.iterator_unfit g Map c.args.list c.requires.1.seed c.requires.1.behind h (rw c.name.ensures at c.in_err-g.ensures))

pub map-offset_bounds-side-g : goal.map-offset_bounds-side-g
map-offset_bounds-side-g t c = omega (arith, (iterators.iterator_ready c.requires.0 Map c.args.list c.requires.1.seed c.requires.1.behind c.name.ensures c.in_ok-g.ensures).inputs.stand.head.in_words)

pub map-bounds-side-g : goal.map-bounds-side-g
map-bounds-side-g t c = (iterators.iterator_ready c.requires.0 Map c.args.list c.requires.1.seed c.requires.1.behind c.name.ensures c.in_ok-g.ensures).inputs.stand.head.in_words

pub map-offset_bounds-side-list : goal.map-offset_bounds-side-list
map-offset_bounds-side-list t c = omega (arith, (iterators.iterates c.requires.0 Map c.args.list c.requires.1.seed c.requires.1.behind).head.in_words)

pub map-bounds-side-list : goal.map-bounds-side-list
map-bounds-side-list t c = (iterators.iterates c.requires.0 Map c.args.list c.requires.1.seed c.requires.1.behind).head.in_words

pub map-map_rule-requires : goal.map-map_rule-requires
map-map_rule-requires t c = omega (arith, (iterators.iterator_ready c.requires.0 Map c.args.list c.requires.1.seed c.requires.1.behind c.name.ensures c.in_ok-g.ensures).low)

pub map-returns-in_err-typ : goal.map-returns-in_err-typ
map-returns-in_err-typ t c = λ h g. rw c.from_residual-in_err-typ.ensures (closed_none (iterators.map_done g Map c.args.list c.requires.1.seed c.requires.1.behind c.name.ensures c.in_ok-g.ensures h refl c.in_err-typ.ensures))

pub map-returns : goal.map-returns
map-returns t c = λ h g. closed (iterators.map_done g Map c.args.list c.requires.1.seed c.requires.1.behind c.name.ensures c.in_ok-g.ensures h refl c.in_ok-typ.ensures) (iterators.iterator_end g Map c.args.list c.requires.1.seed c.requires.1.behind c.name.ensures c.in_ok-g.ensures)

pub fold-name-name-requires-clause-inside : goal.fold-name-name-requires-clause-inside
fold-name-name-requires-clause-inside t c = cases.inside_words c.requires.0

pub fold-gather-requires : goal.fold-gather-requires
fold-gather-requires t c =
    let w = iterators.iterates c.requires.0 Fold c.args.list c.args.seed c.requires.1 in
    (omega (arith, c.decreases, iterators.list_behind c.requires.0 Fold c.args.list c.args.seed c.requires.1, w.head.in_kinds), iterators.iterator_given c.requires.0 Fold c.args.list c.args.seed c.requires.1)

pub fold-name-name-requires-clause-small : goal.fold-name-name-requires-clause-small
fold-name-name-requires-clause-small t c = (iterators.iterates c.requires.0 Fold c.args.list c.args.seed c.requires.1).small

pub fold-returns-in_err-g : goal.fold-returns-in_err-g
fold-returns-in_err-g t c = λ h g. rw c.from_residual.ensures (iterators.iterator_unfit g Fold c.args.list c.args.seed c.requires.1 h (rw c.name-name.ensures at c.in_err-g.ensures))

pub fold-fold_inputs-requires : goal.fold-fold_inputs-requires
fold-fold_inputs-requires t c = iterators.iterator_inputs c.requires.0 Fold c.args.list c.args.seed c.requires.1 c.name-name.ensures c.in_ok-g.ensures

pub fold-returns-in_err-f : goal.fold-returns-in_err-f
fold-returns-in_err-f t c = λ h g. rw c.from_residual-in_err-f.ensures (iterators.fold_unfit g Fold c.args.list c.args.seed c.requires.1 c.name-name.ensures c.in_ok-g.ensures refl h c.in_err-f.ensures)

pub fold-infer-requires : goal.fold-infer-requires
fold-infer-requires t c =
    let s = iterators.seed_at c.requires.0 Fold c.args.list c.args.seed c.requires.1 c.in-Some.p c.in-Some.is in
    (omega (arith, c.decreases, cases.inside c.requires.0, s.inside), iterators.seed_given c.requires.0 Fold c.args.list c.args.seed c.requires.1 c.in-Some.is)

-- what is said of the seed where its arms join
fold-seed : (t : ℕ) (c : fold-Joined-seed t) (g : Given c.args.side.now.ctx c.args.side.now.records c.args.at)
    → iterators.Seeded g Fold c.args.list c.args.seed c.requires.1 c.name-name.ensures c.in_ok-g.ensures refl c.in_ok-f.ensures c.match-seed.start c.match-seed.lines
fold-seed t c g =
    elim c.match-seed.branch [
      | fold-in-Some w ↦ rw (w.start-is, w.lines-is) (iterators.with_seed g Fold c.args.list c.args.seed c.requires.1 c.name-name.ensures c.in_ok-g.ensures refl c.in_ok-f.ensures w.in-Some.is w.infer.ensures (iterators.mapped g.W.text w.infer.result w.map-start.result (search rules)))
      | fold-in-None w ↦ rw (w.start-is, w.lines-is) (iterators.without_seed g Fold c.args.list c.args.seed c.requires.1 c.name-name.ensures c.in_ok-g.ensures refl c.in_ok-f.ensures w.in-None.is)
    ]

pub fold-returns-in_err-typ : goal.fold-returns-in_err-typ
fold-returns-in_err-typ t c = λ h g. rw c.from_residual-in_err-typ.ensures (closed_none (iterators.fold_done g Fold c.args.list c.args.seed c.requires.1 c.name-name.ensures c.in_ok-g.ensures refl c.in_ok-f.ensures h (fold-seed t (goal.at.fold-returns-in_err-typ t c).Joined-seed g) c.in_err-typ.ensures))

pub fold-returns : goal.fold-returns
fold-returns t c = λ h g. closed (iterators.fold_done g Fold c.args.list c.args.seed c.requires.1 c.name-name.ensures c.in_ok-g.ensures refl c.in_ok-f.ensures h (fold-seed t (goal.at.fold-returns t c).Joined-seed g) c.in_ok-typ.ensures) (iterators.iterator_end g Fold c.args.list c.args.seed c.requires.1 c.name-name.ensures c.in_ok-g.ensures)

-- ---- the other constructs

pub unary-bounds-side-p : goal.unary-bounds-side-p
unary-bounds-side-p t c = cases.unary_in c.requires.0 c.requires.1

pub unary-bounds-side-p-then-is_signed : goal.unary-bounds-side-p-then-is_signed
unary-bounds-side-p-then-is_signed t c = cases.unary_words c.requires.0 c.requires.1

pub unary-returns-in_err-typ : goal.unary-returns-in_err-typ
unary-returns-in_err-typ t c = λ g. rw c.from_residual.ensures (closed_none (cases.unary_literal g c.requires.1 c.is_signed.ensures c.if-is_signed.true c.integer_literal_type-k.ensures c.in_err-typ.ensures))

pub unary-returns-then-is_signed : goal.unary-returns-then-is_signed
unary-returns-then-is_signed t c = λ g. closed (cases.unary_literal g c.requires.1 c.is_signed.ensures c.if-is_signed.true c.integer_literal_type-k.ensures c.in_ok-typ.ensures) (cases.unary_literal_next g c.requires.1 c.is_signed.ensures c.if-is_signed.true)

pub unary-infer-requires : goal.unary-infer-requires
unary-infer-requires t c = (omega (arith, c.decreases, cases.inside c.requires.0), cases.unary_given c.requires.0 c.requires.1)

pub unary-returns-in_err-a : goal.unary-returns-in_err-a
unary-returns-in_err-a t c = λ g. rw c.from_residual-in_err-a.ensures (cases.unary_stop g c.requires.1 c.is_signed.ensures c.if-is_signed.false _ c.in_err-a.ensures)

pub unary-returns-in_err-typ-2 : goal.unary-returns-in_err-typ-2
unary-returns-in_err-typ-2 t c = λ g. rw c.from_residual-in_err-typ-2.ensures (closed_none (cases.unary_done g c.requires.1 c.is_signed.ensures c.if-is_signed.false _ c.in_ok-a.ensures c.in_err-typ-2.ensures))

pub unary-returns : goal.unary-returns
unary-returns t c = λ g. closed (cases.unary_done g c.requires.1 c.is_signed.ensures c.if-is_signed.false _ c.in_ok-a.ensures c.in_ok-typ-2.ensures) (cases.unary_next g c.requires.1 c.is_signed.ensures c.if-is_signed.false _ c.in_ok-a.ensures)

pub binary-infer-requires : goal.binary-infer-requires
binary-infer-requires t c = (omega (arith, c.decreases, cases.inside c.requires.0), cases.bin_first c.requires.0 c.requires.1 c.requires.2)

pub binary-returns-in_err-l : goal.binary-returns-in_err-l
binary-returns-in_err-l t c = λ g. rw c.from_residual.ensures (cases.bin_stop g c.requires.1 c.requires.2 _ c.class_of-class.ensures _ c.sub_hint-h.ensures c.in_err-l.ensures)

-- the hint of the right operand
binary-hint : (t : ℕ) (c : binary-Joined-is_integer t) → cases.RightHint c.in_ok-l.l.typ (option_copied c.sub_hint-h.result) (option_copied c.if-is_integer.right)
binary-hint t c =
    elim c.if-is_integer.branch [
      | binary-then-is_integer w ↦ rw w.right-is (cases.right_type c.is_integer.ensures w.if-is_integer.true)
      | binary-else-is_integer w ↦ rw w.right-is (cases.right_same c.is_integer.ensures w.if-is_integer.false)
    ]

pub binary-infer-requires-2 : goal.binary-infer-requires-2
binary-infer-requires-2 t c =
    (omega (arith, c.decreases, cases.inside c.requires.0, cases.bin_next c.requires.0 c.requires.1 c.requires.2 _ c.class_of-class.ensures _ c.sub_hint-h.ensures c.in_ok-l.ensures), cases.bin_second c.requires.0 c.requires.1 c.requires.2 _ c.class_of-class.ensures _ c.sub_hint-h.ensures c.in_ok-l.ensures)

pub binary-returns-in_err-r : goal.binary-returns-in_err-r
binary-returns-in_err-r t c = λ g. rw c.from_residual-in_err-r.ensures (cases.bin_stop₂ g c.requires.1 c.requires.2 _ c.class_of-class.ensures _ c.sub_hint-h.ensures c.in_ok-l.ensures (binary-hint t (goal.at.binary-returns-in_err-r t c).Joined-is_integer) c.in_err-r.ensures)

pub binary-returns-in_err-typ : goal.binary-returns-in_err-typ
binary-returns-in_err-typ t c = λ g. rw c.from_residual-in_err-typ.ensures (closed_none (cases.bin_done g c.requires.1 c.requires.2 _ c.class_of-class.ensures _ c.sub_hint-h.ensures c.in_ok-l.ensures (binary-hint t (goal.at.binary-returns-in_err-typ t c).Joined-is_integer) c.in_ok-r.ensures c.in_err-typ.ensures))

pub binary-returns : goal.binary-returns
binary-returns t c = λ g. closed (cases.bin_done g c.requires.1 c.requires.2 _ c.class_of-class.ensures _ c.sub_hint-h.ensures c.in_ok-l.ensures (binary-hint t (goal.at.binary-returns t c).Joined-is_integer) c.in_ok-r.ensures c.in_ok-typ.ensures) (cases.bin_end g c.requires.1 c.requires.2 _ c.class_of-class.ensures _ c.sub_hint-h.ensures c.in_ok-l.ensures (binary-hint t (goal.at.binary-returns t c).Joined-is_integer) c.in_ok-r.ensures)

pub both-returns-in_err-a : goal.both-returns-in_err-a
both-returns-in_err-a t c = λ g. rw c.from_residual.ensures (cases.both_stop g _ _ _ c.in_err-a.ensures)

pub both-infer-requires-2 : goal.both-infer-requires-2
both-infer-requires-2 t c = (omega (arith, c.decreases, cases.both_next c.requires _ c.in_ok-a.ensures), cases.both_second c.requires _ c.in_ok-a.ensures)

pub both-returns-in_err-b : goal.both-returns-in_err-b
both-returns-in_err-b t c = λ g. rw c.from_residual-in_err-b.ensures (cases.both_stop₂ g _ c.in_ok-a.ensures _ _ (rw (c.or.ensures, copied_or c.args.hint _) at c.in_err-b.ensures))

pub both-returns-in_err-typ : goal.both-returns-in_err-typ
both-returns-in_err-typ t c = λ g. rw c.from_residual-in_err-typ.ensures (cases.both_refused g _ c.in_ok-a.ensures (rw (c.or.ensures, copied_or c.args.hint _) at c.in_ok-b.ensures) _ _ c.in_err-typ.ensures)

pub both-returns : goal.both-returns
both-returns t c = λ g. cases.both_done g _ c.in_ok-a.ensures (rw (c.or.ensures, copied_or c.args.hint _) at c.in_ok-b.ensures) _ _ c.in_ok-typ.ensures

pub ite-infer-requires : goal.ite-infer-requires
ite-infer-requires t c = (omega (arith, c.decreases, cases.inside c.requires.0), cases.ite_first c.requires.0 c.requires.1)

pub ite-returns-in_err-c : goal.ite-returns-in_err-c
ite-returns-in_err-c t c = λ g. rw c.from_residual.ensures (cases.ite_stop g c.requires.1 c.basic-wanted.ensures _ c.in_err-c.ensures)

pub ite-both-requires : goal.ite-both-requires
ite-both-requires t c = (omega (arith, c.decreases, cases.inside c.requires.0, cases.ite_next c.requires.0 c.requires.1 c.basic-wanted.ensures c.in_ok-c.ensures), cases.ite_pair c.requires.0 c.requires.1 c.basic-wanted.ensures c.in_ok-c.ensures)

pub ite-returns-then-is_truth : goal.ite-returns-then-is_truth
ite-returns-then-is_truth t c = λ g. cases.ite_done g c.requires.1 c.basic-wanted.ensures c.in_ok-c.ensures c.is_truth.ensures _ c.if-is_truth.true c.both.ensures

pub ite-returns : goal.ite-returns
ite-returns t c = λ g. cases.ite_fail g c.requires.1 c.basic-wanted.ensures c.in_ok-c.ensures c.is_truth.ensures _ c.if-is_truth.false c.fail.ensures

pub when-name-requires-clause-inside : goal.when-name-requires-clause-inside
when-name-requires-clause-inside t c = cases.inside_words c.requires.0

pub when-clock_rule-requires : goal.when-clock_rule-requires
when-clock_rule-requires t c = c.requires.0.W

pub when-name-requires-clause-small : goal.when-name-requires-clause-small
when-name-requires-clause-small t c = cases.when_small c.requires.0 c.requires.1

pub when-infer-requires : goal.when-infer-requires
when-infer-requires t c = (omega (arith, c.decreases, cases.inside c.requires.0), cases.when_given c.requires.0 c.requires.1)

pub when-returns : goal.when-returns
when-returns t c = λ g. cases.when_done g c.requires.1 _ (rw c.name.ensures at c.clock_rule.ensures) c.infer.ensures

pub merge-name-requires-clause-inside : goal.merge-name-requires-clause-inside
merge-name-requires-clause-inside t c = cases.inside_words c.requires.0

pub merge-clock_rule-requires : goal.merge-clock_rule-requires
merge-clock_rule-requires t c = c.requires.0.W

pub merge-name-requires-clause-small : goal.merge-name-requires-clause-small
merge-name-requires-clause-small t c = cases.merge_small c.requires.0 c.requires.1

pub merge-both-requires : goal.merge-both-requires
merge-both-requires t c = (omega (arith, c.decreases, cases.inside c.requires.0), cases.merge_pair c.requires.0 c.requires.1)

pub merge-returns : goal.merge-returns
merge-returns t c = λ g. cases.merge_done g c.requires.1 _ (rw c.name.ensures at c.clock_rule.ensures) c.both.ensures

pub field-infer-requires : goal.field-infer-requires
field-infer-requires t c = (omega (arith, c.decreases, cases.inside c.requires.0), cases.field_given c.requires.0 c.requires.1)

pub field-returns-in_err-a : goal.field-returns-in_err-a
field-returns-in_err-a t c = λ h g. rw c.from_residual.ensures (cases.field_stop g c.requires.1 h c.in_err-a.ensures)

pub field-bounds-side-at : goal.field-bounds-side-at
field-bounds-side-at t c = cases.inside_words c.requires.0

pub field-field_rule-requires : goal.field-field_rule-requires
field-field_rule-requires t c = c.requires.0.W

pub field-returns-in_err-typ : goal.field-returns-in_err-typ
field-returns-in_err-typ t c = λ h g. rw c.from_residual-in_err-typ.ensures (closed_none (cases.field_done g c.requires.1 c.in_ok-a.ensures h c.in_err-typ.ensures))

pub field-returns : goal.field-returns
field-returns t c = λ h g. closed (cases.field_done g c.requires.1 c.in_ok-a.ensures h c.in_ok-typ.ensures) (cases.field_next g c.requires.1 c.in_ok-a.ensures)

pub index-infer-requires : goal.index-infer-requires
index-infer-requires t c = (omega (arith, c.decreases, cases.inside c.requires.0), cases.index_first c.requires.0 c.requires.1)

pub index-returns-in_err-b : goal.index-returns-in_err-b
index-returns-in_err-b t c = λ h g. rw c.from_residual.ensures (cases.index_stop g c.requires.1 h c.in_err-b.ensures)

pub index-infer-requires-2 : goal.index-infer-requires-2
index-infer-requires-2 t c = (omega (arith, c.decreases, cases.inside c.requires.0, cases.index_next c.requires.0 c.requires.1 c.in_ok-b.ensures), cases.index_second c.requires.0 c.requires.1 c.in_ok-b.ensures)

pub index-returns-in_err-i : goal.index-returns-in_err-i
index-returns-in_err-i t c = λ h g. rw c.from_residual-in_err-i.ensures (cases.index_stop₂ g c.requires.1 c.in_ok-b.ensures c.basic-wanted.ensures h c.in_err-i.ensures)

pub index-returns-in_err-typ : goal.index-returns-in_err-typ
index-returns-in_err-typ t c = λ h g. rw c.from_residual-in_err-typ.ensures (closed_none (cases.index_done g c.requires.1 c.in_ok-b.ensures c.basic-wanted.ensures c.in_ok-i.ensures h c.in_err-typ.ensures))

pub index-returns : goal.index-returns
index-returns t c = λ h g. closed (cases.index_done g c.requires.1 c.in_ok-b.ensures c.basic-wanted.ensures c.in_ok-i.ensures h c.in_ok-typ.ensures) (cases.index_end g c.requires.1 c.in_ok-b.ensures c.basic-wanted.ensures c.in_ok-i.ensures)

pub cast-read_type-to-requires : goal.cast-read_type-to-requires
cast-read_type-to-requires t c = cases.cast_there c.requires.0 c.requires.1

pub cast-infer-requires : goal.cast-infer-requires
cast-infer-requires t c = (omega (arith, c.decreases, cases.inside c.requires.0, cases.cast_next c.requires.0 c.requires.1 c.read_type-to.ensures), cases.cast_given c.requires.0 c.requires.1 c.read_type-to.ensures)

pub cast-returns-in_err-a : goal.cast-returns-in_err-a
cast-returns-in_err-a t c = λ h g. rw c.from_residual.ensures (cases.cast_stop g c.requires.1 c.read_type-to.ensures h c.in_err-a.ensures)

pub cast-returns-in_err-typ : goal.cast-returns-in_err-typ
cast-returns-in_err-typ t c = λ h g. rw c.from_residual-in_err-typ.ensures (closed_none (cases.cast_done g c.requires.1 c.read_type-to.ensures c.in_ok-a.ensures h c.in_err-typ.ensures))

pub cast-returns : goal.cast-returns
cast-returns t c = λ h g. closed (cases.cast_done g c.requires.1 c.read_type-to.ensures c.in_ok-a.ensures h c.in_ok-typ.ensures) (cases.cast_end g c.requires.1 c.read_type-to.ensures c.in_ok-a.ensures)

-- ---- the expression

pub infer-bounds-side-at : goal.infer-bounds-side-at
infer-bounds-side-at t c = cases.inside c.requires

pub infer-infer-requires : goal.infer-infer-requires
infer-infer-requires t c = (omega (arith, c.decreases, cases.inside c.requires), cases.pre_given c.requires c.in-68.is)

pub infer-both-requires : goal.infer-both-requires
infer-both-requires t c = (omega (arith, c.decreases, cases.inside c.requires), cases.arrow_pair c.requires c.in-69.is)

pub infer-map-requires : goal.infer-map-requires
infer-map-requires t c = (omega (arith, c.decreases), (c.requires, record { seed = None; behind = (c.in-80.is, refl) }))

pub infer-skip-requires : goal.infer-skip-requires
infer-skip-requires t c = iterators.seed_there c.requires Map c.in-81.is

pub infer-map-requires-in-81 : goal.infer-map-requires-in-81
infer-map-requires-in-81 t c = (omega (arith, c.decreases), (c.requires, record { seed = Some (c.args.at + 1); behind = (c.in-81.is, refl, c.skip.ensures) }))

pub infer-fold-requires : goal.infer-fold-requires
infer-fold-requires t c = (omega (arith, c.decreases), (c.requires, (c.in-82.is, refl)))

pub infer-skip-list-requires : goal.infer-skip-list-requires
infer-skip-list-requires t c = iterators.seed_there c.requires Fold c.in-83.is

pub infer-fold-requires-in-83 : goal.infer-fold-requires-in-83
infer-fold-requires-in-83 t c = (omega (arith, c.decreases), (c.requires, (c.in-83.is, refl, c.skip-list.ensures)))

pub infer-unary-requires : goal.infer-unary-requires
infer-unary-requires t c = (omega (arith, c.decreases), (c.requires, cases.unary_of_kind c.requires (omega arith) (omega arith)))

pub infer-when-requires : goal.infer-when-requires
infer-when-requires t c = (omega (arith, c.decreases), (c.requires, cases.when_of_kind c.requires (omega arith) (omega arith)))

pub infer-binary-requires : goal.infer-binary-requires
infer-binary-requires t c =
    let k = cases.kinds c.requires in
    elim c.in_default.branch [
      | infer-in_default-via-then-this-lt67 w ↦ (omega (arith, c.decreases), (c.requires, omega arith, omega arith))
      | infer-in_default-via-else-this-lt67+else-this-lt79 w ↦ absurd (grind (arith, k.1))
    ]

pub infer-returns-in-44 : goal.infer-returns-in-44
infer-returns-in-44 t c = c.variable.ensures _

pub infer-returns-in-68 : goal.infer-returns-in-68
infer-returns-in-68 t c = λ g. cases.pre_done g c.in-68.is _ c.infer.ensures

pub infer-returns-in-69 : goal.infer-returns-in-69
infer-returns-in-69 t c = λ g. cases.arrow_done g c.in-69.is _ c.both.ensures

pub infer-returns-in-70 : goal.infer-returns-in-70
infer-returns-in-70 t c = c.call.ensures _

pub infer-returns-in-71 : goal.infer-returns-in-71
infer-returns-in-71 t c = c.field.ensures _

pub infer-returns-in-72 : goal.infer-returns-in-72
infer-returns-in-72 t c = c.index.ensures _

pub infer-returns-in-73 : goal.infer-returns-in-73
infer-returns-in-73 t c = c.tuple.ensures _

pub infer-returns-in-75 : goal.infer-returns-in-75
infer-returns-in-75 t c = c.build.ensures _

pub infer-returns-in-76 : goal.infer-returns-in-76
infer-returns-in-76 t c = c.cast.ensures _

pub infer-returns-in-80 : goal.infer-returns-in-80
infer-returns-in-80 t c = c.map.ensures _

pub infer-returns-in-81 : goal.infer-returns-in-81
infer-returns-in-81 t c = c.map-in-81.ensures _

pub infer-returns-in-82 : goal.infer-returns-in-82
infer-returns-in-82 t c = c.fold.ensures _

pub infer-returns-in-83 : goal.infer-returns-in-83
infer-returns-in-83 t c = c.fold-in-83.ensures _
