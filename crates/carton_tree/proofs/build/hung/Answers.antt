use Rattle.std.proofs.Common.{◌<◌, List, length, refl, subst, arith}
use Rattle.carton_tree.specs.declared.hinges.Hinge.{Hinge}
use Rattle.carton_tree.specs.Steps.{AreOpen, IsFirstLoop}
use Rattle.carton_tree.proofs.Tying.{first_loop, no_loops}
use Rattle.carton_tree.proofs.build.hung.Goals as goal

pub returns-in-Err-clause-refused : goal.returns-in-Err-clause-refused
returns-in-Err-clause-refused c =
    first_loop c.args.raw.now c.args.hinges.now.creases.items c.args.hinges.now.all.items c.requires.hinges
    c.in-Err.e (subst (λ (h : List Hinge). IsFirstLoop h c.in-Err.e) c.deref.ensures.value
    c.in-Err.ensures.closed)

pub returns-then-len-root-clause-refused : goal.returns-then-len-root-clause-refused
returns-then-len-root-clause-refused c =
    let still = subst (λ (h : List Hinge). AreOpen h (length h)) c.deref.ensures.value c.in-Ok.ensures.open in (
      no_loops c.args.raw.now c.args.hinges.now.creases.items c.args.hinges.now.all.items c.requires.hinges
          still,
      refl,
      omega (arith, c.len.ensures, c.if-len-root.true),
    )

pub returns-in-Some-clause-refused : goal.returns-in-Some-clause-refused
returns-in-Some-clause-refused c =
    let still = subst (λ (h : List Hinge). AreOpen h (length h)) c.deref.ensures.value c.in-Ok.ensures.open in
    let root : c.args.root.0 < length c.args.raw.now.faces =
    omega (arith, c.len.ensures, c.if-len-root.false) in (
      (
        no_loops c.args.raw.now c.args.hinges.now.creases.items c.args.hinges.now.all.items c.requires.hinges
            still,
        root,
      ),
      c.in-Some.ensures,
    )

pub returns-in-Some-first_deep-clause-refused : goal.returns-in-Some-first_deep-clause-refused
returns-in-Some-first_deep-clause-refused c =
    let still = subst (λ (h : List Hinge). AreOpen h (length h)) c.deref.ensures.value c.in-Ok.ensures.open in
    let root : c.args.root.0 < length c.args.raw.now.faces =
    omega (arith, c.len.ensures, c.if-len-root.false) in (
      (
        (
          no_loops c.args.raw.now c.args.hinges.now.creases.items c.args.hinges.now.all.items c.requires.hinges
              still,
          root,
        ),
        c.in_default.ensures,
      ),
      c.in-Some-first_deep.ensures,
    )

pub returns-in-None-clause-open : goal.returns-in-None-clause-open
returns-in-None-clause-open c = subst (λ (h : List Hinge). AreOpen h (length h)) c.deref.ensures.value
    c.in-Ok.ensures.open
