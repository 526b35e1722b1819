use Rattle.std.proofs.Common.{◌≡◌, ◌∙◌, List, ap, arith, length, map, subst}
use Rattle.std.proofs.lemmas.List.{length-map}
use Rattle.secret_rules.specs.Keywords.{all_keywords, is_always}
use Rattle.secret_rules.specs.Markers.{AreFlagsFor}
use Rattle.secret_rules.specs.declared.rule.Rule.{Rule}
use Rattle.secret_rules.proofs.Applying.{AreFlagsFor-set, found-numbered, owners-below}
use Rattle.secret_rules.proofs.rules.Rules.tell_applying.Goals as goal

pub set_owners-requires-clause-found : goal.set_owners-requires-clause-found
set_owners-requires-clause-found c =
    let rules = c.self.inside.rules.items in
    let all = c.deref-2.ensures.value ∙ c.in_ok-found.ensures.all (all_keywords rules) c.self.invariant.of in
    found-numbered rules c.args.line.now c.deref-2.result.now all c.deref-3.result.now (c.deref-3.ensures.value ∙ c.self.invariant.owned)

pub set_owners-requires-clause-owned : goal.set_owners-requires-clause-owned
set_owners-requires-clause-owned c =
    let rules = c.self.inside.rules.items in
    let all = c.deref-2.ensures.value ∙ c.in_ok-found.ensures.all (all_keywords rules) c.self.invariant.of in
    let below = owners-below rules c.args.line.now c.deref-2.result.now all c.deref-3.result.now (c.deref-3.ensures.value ∙ c.self.invariant.owned) in
    let always : c.copy_from_slice.new.self ≡ map is_always rules = c.copy_from_slice.ensures.after ∙ c.deref.ensures.value ∙ c.self.invariant.flagged in
    let count : length c.copy_from_slice.new.self ≡ length rules = ap length always ∙ length-map rules is_always in
    λ k d within. omega (arith, below k d within)

pub returns : goal.returns
returns c =
    let rules = c.self.inside.rules.items in
    let all = c.deref-2.ensures.value ∙ c.in_ok-found.ensures.all (all_keywords rules) c.self.invariant.of in
    let always : c.copy_from_slice.new.self ≡ map is_always rules = c.copy_from_slice.ensures.after ∙ c.deref.ensures.value ∙ c.self.invariant.flagged in
    let kept : length c.set_owners.new.flags ≡ length c.copy_from_slice.new.self = c.set_owners.auto.flags in
    let count : length c.set_owners.new.flags ≡ length rules = kept ∙ ap length always ∙ length-map rules is_always in
    let made = AreFlagsFor-set rules c.args.line.now c.deref-2.result.now all c.deref-3.result.now (c.deref-3.ensures.value ∙ c.self.invariant.owned)
    c.copy_from_slice.new.self c.set_owners.new.flags always count c.set_owners.ensures.flags in
    record { flags = subst (λ (rs : List Rule). AreFlagsFor rs c.args.line.now c.set_owners.new.flags) c.self.view_is made }
