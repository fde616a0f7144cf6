use Rattle.std.proofs.Common.{rules, ◌≡◌, ◌≤◌, length, take, drop, ap, sym, ◌∙◌, arith}
use Rattle.real_edges.proofs.BufferLemmas.{front_taken}
use Rattle.real_edges.proofs.block.Block.next.Goals as goal

pub returns-clause-front : goal.returns-clause-front
returns-clause-front c =
    let inside = c.self.inside in
    let bytes = c.deref.ensures.value in
    sym c.self.view_is
    ∙ front_taken inside.bytes.items c.copy_from_slice.new.self (drop c.min-len.result c.args.into.now) inside.given inside.filled 65536 c.min-len.result
    c.self.invariant.0
    (omega (arith, c.self.invariant.1, c.deref.ensures.len, ap length bytes))
    (rw bytes at c.min-len.ensures)
    (rw bytes at c.copy_from_slice.ensures.after)
