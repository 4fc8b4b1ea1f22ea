-- `next` meets its contract. Assumes nothing.
use native.Mathlib.Omega.{arith}
use mathlib.Core.Path.{refl, ◌∙◌}
use Rattle.standing.proofs.Sizes.{no_items}
use Rattle.rules.proofs.Walks.{ahead}
use Rattle.rules.proofs.walk.PortsIterator.next.Goals as goal

pub returns-then-self-eq0-clause-steps : goal.returns-then-self-eq0-clause-steps
returns-then-self-eq0-clause-steps c = record { records = refl; gave = (refl, refl, λ ρ ps l. no_items ps (l.many ∙ c.if-self-eq0.true)) }

pub bounds-self-at : goal.bounds-self-at
bounds-self-at c = (ahead c.requires.ps c.if-self-eq0.false c.requires.left).head.in_words

pub offset_bounds-self-at : goal.offset_bounds-self-at
offset_bounds-self-at c = let h = (ahead c.requires.ps c.if-self-eq0.false c.requires.left).head in omega arith

pub invariant_of-name : goal.invariant_of-name
invariant_of-name c = record { below = (ahead c.requires.ps c.if-self-eq0.false c.requires.left).name.small }

pub overflow_add-at : goal.overflow_add-at
overflow_add-at c = let h = (ahead c.requires.ps c.if-self-eq0.false c.requires.left).head in omega arith

pub type_end-self-requires : goal.type_end-self-requires
type_end-self-requires c =
    let f = ahead c.requires.ps c.if-self-eq0.false c.requires.left in
    record { text = c.requires.text; t = f.p.1; typed = f.typed }

pub returns-clause-steps : goal.returns-clause-steps
returns-clause-steps c = record {
  records = refl;
  gave = (refl, refl, λ ρ ps l. (let f = ahead ps c.if-self-eq0.false l in f.step c.type_end-self.result (c.type_end-self.ensures (record { text = ρ; t = f.p.1; typed = f.typed }))));
}

pub returns-clause-goes : goal.returns-clause-goes
returns-clause-goes c =
    let f = ahead c.requires.ps c.if-self-eq0.false c.requires.left in
    let w = f.step c.type_end-self.result (c.type_end-self.ensures (record { text = c.requires.text; t = f.p.1; typed = f.typed })) in
    record {
      on = λ _. (record { text = c.requires.text; ps = w.others; left = w.rest }, tt, omega arith);
      keeps = record { text = c.requires.text; ps = w.others; left = w.rest };
      rests = λ _. tt;
    }
