use Rattle.std.proofs.Common.{ℕ, ◌<◌, rules, subst}
use Rattle.std.specs.Prelude.{IfSome}
use Rattle.aho_corasick.specs.ReadOut.{states_of}
use Rattle.aho_table.specs.Table.{depth_in}
use Rattle.acdraw.proofs.Words.{leads_by}
use Rattle.acdraw.proofs.picture.words.leading_byte.Goals as goal

pub returns : goal.returns
returns c =
    let states = states_of c.args.nfa.now in
    let small : IfSome c.last_to.result (λ b. b < 256) = search rules in
    let nearer = subst (λ (n : ℕ). n < depth_in states c.args.sid) c.depth.ensures.depth (subst (λ (n : ℕ). c.depth.result < n) c.depth-2.ensures.depth c.if-depth.false) in
    record { leads = leads_by states c.args.from c.args.sid c.transitions.result c.last_to.result c.requires.from_within nearer c.transitions.ensures.listed c.transitions.ensures.rising small c.last_to.ensures.last }
