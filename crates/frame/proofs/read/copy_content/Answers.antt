-- `frame::read::copy_content` meets its contract. Assumes nothing.
use Rattle.std.proofs.Common.{◌≡◌, ◌+◌, [], ◌∷◌, get_or, set, drop, refl, subst, arith}
use Rattle.protocol.specs.Buffer.{Put}
use Rattle.protocol.proofs.BufferLaws.{set_put}
use Rattle.frame.specs.Steps.{content_from}
use Rattle.frame.proofs.CheckLaws.{copy_begins, copy_lone, copy_doubled, copy_all, copy_short}
use Rattle.frame.proofs.read.copy_content.Goals as goal
use Rattle.frame.proofs.read.copy_content.Goals.{then-b-eq-DLE+else-s-i-2, else-b-eq-DLE}

pub loop-k-init : goal.loop-k-init
loop-k-init c = copy_begins c.args.s.now c.args.from c.args.n c.args.out.now c.requires

pub returns-then-s-i : goal.returns-then-s-i
returns-then-s-i c = copy_short c.args.s.now c.args.from c.args.n c.args.out.now c.requires c.loop-k.invariant c.if-s-i.true

pub returns-then-s-i-2 : goal.returns-then-s-i-2
returns-then-s-i-2 c =
    copy_short c.args.s.now c.args.from c.args.n c.args.out.now c.requires
    (copy_doubled c.args.s.now c.args.from c.args.n c.args.out.now c.requires c.loop-k.invariant c.loop-k-test.true c.if-s-i.false
    (record { next = refl; bytes = set_put c.loop-k.out c.loop-k.k _ (omega arith) }) c.if-b-eq-DLE.true)
    (omega arith)

pub loop-k-preserved : goal.loop-k-preserved
loop-k-preserved c =
    let put : Put c.loop-k.k (get_or c.args.s.now c.loop-k.i 0 ∷ []) c.loop-k.out (c.loop-k.k + 1)
    (set c.loop-k.out c.loop-k.k (get_or c.args.s.now c.loop-k.i 0)) =
    record { next = refl; bytes = set_put c.loop-k.out c.loop-k.k _ (omega arith) } in
    elim c.if-b-eq-DLE.branch [
      | then-b-eq-DLE+else-s-i-2 w ↦
          rw w.i-is
          (copy_doubled c.args.s.now c.args.from c.args.n c.args.out.now c.requires c.loop-k.invariant c.loop-k-test.true c.if-s-i.false
          put w.if-b-eq-DLE.true)
      | else-b-eq-DLE w ↦
          rw w.i-is
          (copy_lone c.args.s.now c.args.from c.args.n c.args.out.now c.requires c.loop-k.invariant c.loop-k-test.true c.if-s-i.false
          put w.if-b-eq-DLE.false)
    ]

pub returns : goal.returns
returns c =
    let all : c.loop-k.k ≡ c.args.n = omega arith in
    subst (λ k. Put 0 (content_from c.args.n (drop c.args.from c.args.s.now)) c.args.out.now k c.loop-k.out) all
    (copy_all c.args.s.now c.args.from c.args.n c.args.out.now c.requires c.loop-k.invariant c.loop-k-test.false)
