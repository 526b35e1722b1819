-- The byte leads to a child, and so does its other case where it has one.
use Rattle.std.proofs.Common.{◌≡◌, ◌&&◌, ℕ, Bool, false, not, nat_eq, eq-eqb, ◌∙◌, ap, subst, sym}
use Rattle.aho_core.specs.Bytes.{opposite}
use Rattle.aho_build.specs.TrieGrowth.{HasChild, IsChildRefusal}
use Rattle.aho_table.specs.Refusal.{refusal_at}
use Rattle.aho_table.specs.Table.{Tables, IsLedTo, transitions_count}
use Rattle.aho_table.specs.declared.links.Child.TheVariants.{Added}
use Rattle.aho_build.proofs.Child.{HasChild-one, HasChild-two}
use Rattle.aho_build.proofs.RefusedChild.{IsChildRefusal-other}
use Rattle.aho_build.proofs.StoppedBuilds.{IfErr-given}
use Rattle.aho_build.proofs.compiler.trie.child.Goals as goal
use Rattle.aho_build.proofs.compiler.trie.child.Goals.{then-ignore_case+then-other-byte+in_ok-set, else-ignore_case, else-ignore_case-via-then-ignore_case+else-other-byte, else-ignore_case-via-else-ignore_case}

pub returns-clause-child : goal.returns-clause-child
returns-clause-child c =
    let old = c.args.table.now.states in
    let first = c.follow_or_add.new.self.states in
    let led : IsLedTo c.args.parent c.args.byte c.args.depth old first (Added c.in-Added.child) =
    subst (IsLedTo c.args.parent c.args.byte c.args.depth old first) c.in-Added.is c.in_ok-child.ensures.led in
    let other_is = c.opposite_ascii_case-other.ensures.opposite in
    elim c.if-ignore_case.branch [
      | then-ignore_case+then-other-byte+in_ok-set w ↦
          HasChild-two c.args.ignore_case c.args.parent c.args.byte c.args.depth c.in-Added.child old first c.requires.added led c.opposite_ascii_case-other.result c.if-ignore_case.table.states
          w.if-ignore_case.true other_is (ap (λ (t : Tables). t.states) (w.table-is ∙ w.in_ok-set.ensures.set))
      | else-ignore_case w ↦
          (let alone : (c.args.ignore_case && not (nat_eq (opposite c.args.byte) c.args.byte)) ≡ false =
          elim w.else-ignore_case.branch [
            | else-ignore_case-via-then-ignore_case+else-other-byte v ↦
                ap (λ (b : Bool). b && not (nat_eq (opposite c.args.byte) c.args.byte)) v.if-ignore_case.true ∙ ap not (eq-eqb (opposite c.args.byte) c.args.byte (sym other_is ∙ v.if-other-byte.false))
            | else-ignore_case-via-else-ignore_case v ↦ ap (λ (b : Bool). b && not (nat_eq (opposite c.args.byte) c.args.byte)) v.if-ignore_case.false
          ] in
          subst (λ (t : Tables). HasChild c.args.ignore_case c.args.parent c.args.byte c.args.depth old t.states c.in-Added.child) (sym w.table-is)
          (HasChild-one c.args.ignore_case c.args.parent c.args.byte c.args.depth c.in-Added.child old first c.requires.added led alone))
    ]

pub returns-in_err-set-clause-refused : goal.returns-in_err-set-clause-refused
returns-in_err-set-clause-refused c =
    let limit = c.args.table.now.limit in
    let old = c.args.table.now.states in
    let first = c.follow_or_add.new.self.states in
    let led : IsLedTo c.args.parent c.args.byte c.args.depth old first (Added c.in-Added.child) =
    subst (IsLedTo c.args.parent c.args.byte c.args.depth old first) c.in-Added.is c.in_ok-child.ensures.led in
    let error = c.in_err-set.field-0.0 in
    IfErr-given (IsChildRefusal c.args.ignore_case limit c.args.parent c.args.byte old) c.from_residual-in_err-set.result error c.from_residual-in_err-set.ensures.1
    (subst (λ (b : Bool). IsChildRefusal b limit c.args.parent c.args.byte old error) (sym c.if-ignore_case.true)
    (IsChildRefusal-other limit c.args.parent c.args.byte c.opposite_ascii_case-other.result c.args.depth c.in-Added.child old first error c.requires.added c.in_ok-child.ensures.rising
    led.0 led.1 led.2 c.opposite_ascii_case-other.ensures.opposite
    (λ is. let clash = c.in_err-set.ensures.there is in cc)
    (subst (λ (n : ℕ). error ≡ refusal_at n (transitions_count first)) c.in_ok-child.ensures.limit c.in_err-set.ensures.refused)))
