use Rattle.std.proofs.Common.{◌≡◌, ◌+◌, refl, arith}
use Rattle.up_expr.specs.Flat.{size}
use Rattle.up_expr.specs.Trees.{tree_of}
use Rattle.up_expr.proofs.Flattening.{both_laid, either_laid, side_long, some_nodes}
use Rattle.up_expr.proofs.flat.+flattener.Goals as goal

pub append_nodes-requires-in-And : goal.append_nodes-requires-in-And
append_nodes-requires-in-And t c =
    let whole : size (tree_of c.args.expr.now) ≡ size (tree_of c.deref.result.now) + size (tree_of c.deref-in-And.result.now) + 1 =
    rw (c.in-And.is, ← c.deref.ensures, ← c.deref-in-And.ensures) refl in
    let first = side_long c.args.nodes.now.items c.append_nodes.new.nodes.items (tree_of c.deref.result.now) c.in_ok-first-in-And.ensures.appended in
    (omega (arith, whole, some_nodes (tree_of c.deref.result.now)), omega (arith, whole, first, c.requires.room))

pub push_node-requires-in-And : goal.push_node-requires-in-And
push_node-requires-in-And t c =
    let whole : size (tree_of c.args.expr.now) ≡ size (tree_of c.deref.result.now) + size (tree_of c.deref-in-And.result.now) + 1 =
    rw (c.in-And.is, ← c.deref.ensures, ← c.deref-in-And.ensures) refl in
    let first = side_long c.args.nodes.now.items c.append_nodes.new.nodes.items (tree_of c.deref.result.now) c.in_ok-first-in-And.ensures.appended in
    let second = side_long c.append_nodes.new.nodes.items c.append_nodes-in-And.new.nodes.items (tree_of c.deref-in-And.result.now) c.in_ok-second-in-And.ensures.appended in
    record { room = omega (arith, whole, first, second, c.requires.room) }

pub returns-in_ok-place-in-And-clause-appended : goal.returns-in_ok-place-in-And-clause-appended
returns-in_ok-place-in-And-clause-appended t c =
    rw (c.in-And.is, ← c.deref.ensures, ← c.deref-in-And.ensures) (both_laid _ _ _ _ _ _ _ _ c.in_ok-first-in-And.ensures.appended c.in_ok-first-in-And.ensures.place c.in_ok-second-in-And.ensures.appended c.in_ok-second-in-And.ensures.place c.in_ok-place-in-And.ensures.pushed)

pub returns-in_ok-place-in-And-clause-place : goal.returns-in_ok-place-in-And-clause-place
returns-in_ok-place-in-And-clause-place t c =
    let whole : size (tree_of c.args.expr.now) ≡ size (tree_of c.deref.result.now) + size (tree_of c.deref-in-And.result.now) + 1 =
    rw (c.in-And.is, ← c.deref.ensures, ← c.deref-in-And.ensures) refl in
    let first = side_long c.args.nodes.now.items c.append_nodes.new.nodes.items (tree_of c.deref.result.now) c.in_ok-first-in-And.ensures.appended in
    let second = side_long c.append_nodes.new.nodes.items c.append_nodes-in-And.new.nodes.items (tree_of c.deref-in-And.result.now) c.in_ok-second-in-And.ensures.appended in
    omega (arith, whole, first, second, c.in_ok-place-in-And.ensures.place)

pub append_nodes-requires-in-Or-2 : goal.append_nodes-requires-in-Or-2
append_nodes-requires-in-Or-2 t c =
    let whole : size (tree_of c.args.expr.now) ≡ size (tree_of c.deref-in-Or.result.now) + size (tree_of c.deref-in-Or-2.result.now) + 1 =
    rw (c.in-Or.is, ← c.deref-in-Or.ensures, ← c.deref-in-Or-2.ensures) refl in
    let first = side_long c.args.nodes.now.items c.append_nodes-in-Or.new.nodes.items (tree_of c.deref-in-Or.result.now) c.in_ok-first-in-Or.ensures.appended in
    (omega (arith, whole, some_nodes (tree_of c.deref-in-Or.result.now)), omega (arith, whole, first, c.requires.room))

pub push_node-requires-in-Or : goal.push_node-requires-in-Or
push_node-requires-in-Or t c =
    let whole : size (tree_of c.args.expr.now) ≡ size (tree_of c.deref-in-Or.result.now) + size (tree_of c.deref-in-Or-2.result.now) + 1 =
    rw (c.in-Or.is, ← c.deref-in-Or.ensures, ← c.deref-in-Or-2.ensures) refl in
    let first = side_long c.args.nodes.now.items c.append_nodes-in-Or.new.nodes.items (tree_of c.deref-in-Or.result.now) c.in_ok-first-in-Or.ensures.appended in
    let second = side_long c.append_nodes-in-Or.new.nodes.items c.append_nodes-in-Or-2.new.nodes.items (tree_of c.deref-in-Or-2.result.now) c.in_ok-second-in-Or.ensures.appended in
    record { room = omega (arith, whole, first, second, c.requires.room) }

pub returns-in_ok-place-in-Or-clause-appended : goal.returns-in_ok-place-in-Or-clause-appended
returns-in_ok-place-in-Or-clause-appended t c =
    rw (c.in-Or.is, ← c.deref-in-Or.ensures, ← c.deref-in-Or-2.ensures) (either_laid _ _ _ _ _ _ _ _ c.in_ok-first-in-Or.ensures.appended c.in_ok-first-in-Or.ensures.place c.in_ok-second-in-Or.ensures.appended c.in_ok-second-in-Or.ensures.place c.in_ok-place-in-Or.ensures.pushed)

pub returns-in_ok-place-in-Or-clause-place : goal.returns-in_ok-place-in-Or-clause-place
returns-in_ok-place-in-Or-clause-place t c =
    let whole : size (tree_of c.args.expr.now) ≡ size (tree_of c.deref-in-Or.result.now) + size (tree_of c.deref-in-Or-2.result.now) + 1 =
    rw (c.in-Or.is, ← c.deref-in-Or.ensures, ← c.deref-in-Or-2.ensures) refl in
    let first = side_long c.args.nodes.now.items c.append_nodes-in-Or.new.nodes.items (tree_of c.deref-in-Or.result.now) c.in_ok-first-in-Or.ensures.appended in
    let second = side_long c.append_nodes-in-Or.new.nodes.items c.append_nodes-in-Or-2.new.nodes.items (tree_of c.deref-in-Or-2.result.now) c.in_ok-second-in-Or.ensures.appended in
    omega (arith, whole, first, second, c.in_ok-place-in-Or.ensures.place)
