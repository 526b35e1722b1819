use Rattle.std.proofs.Common.{◌≡◌, ◌+◌, ◌<◌, ◌≤◌, ◌∷◌, ◌++◌, [], List, length, take, sym, ◌∙◌, ap, subst, arith}
use Rattle.std.specs.Prelude.{Some}
use Rattle.std.specs.List.Sorted.{IsNonDecreasingBy}
use Rattle.std.proofs.lemmas.List.{take_all, take_more}
use Rattle.aho_core.specs.Cover.{AreRunsOf}
use Rattle.aho_core.specs.Listing.{IsMember}
use Rattle.aho_core.specs.Occurrence.{Occurrence}
use Rattle.aho_cover.proofs.Written.{if_ok}
use Rattle.secret_rules.specs.Joining.{with_hand}
use Rattle.secret_rules.proofs.Joined.{AreRunsOf-same, WereJoined, WereJoined-more, WereJoined-runs}
use Rattle.secret_rules.proofs.Members.{member-take, take-ordered}
use Rattle.secret_rules.proofs.Owners.{member-get_or}
use Rattle.secret_rules.proofs.joining.join.Goals as goal

pub loop-m-preserved : goal.loop-m-preserved
loop-m-preserved c =
    let items = c.as_slice-m-items.result.now in
    let i = c.loop-m.m-index in
    let m = c.m-item.result in
    let found = c.put_in_order.new.found.items in
    let within : i < length items = omega arith in
    let same : items ≡ found = c.as_slice-m-items.ensures.value in
    let more : take (i + 1) items ≡ take i items ++ m ∷ [] = take_more items i m within ∙ ap (λ (x : Occurrence). take i items ++ x ∷ []) (sym c.m-item.is) in
    let full = λ (x : Occurrence) (there : IsMember items x). c.requires.full x ((c.put_in_order.ensures.same x).0 (subst (λ (xs : List Occurrence). IsMember xs x) same there)) in
    let here : IsMember items m = subst (IsMember items) (sym c.m-item.is) (member-get_or items i m within) in
    subst (λ (xs : List Occurrence). WereJoined xs c.join_one.new.runs.items (Some c.in_ok-join_one.field-0)) (sym more)
    (WereJoined-more (take i items) c.loop-m.runs.items c.join_one.new.runs.items c.loop-m.hand m c.in_ok-join_one.field-0 c.loop-m.invariant c.in_ok-join_one.ensures.joins
    (full m here) (λ x there. full x (member-take items i x there))
    (λ x there. subst (λ (o : Occurrence). x.start ≤ o.start) (sym c.m-item.is)
    (take-ordered (λ (o : Occurrence). o.start) items i x m (subst (IsNonDecreasingBy (λ (o : Occurrence). o.start)) (sym same) c.put_in_order.ensures.order) within there)))

pub returns : goal.returns
returns c =
    let items = c.as_slice-m-items.result.now in
    let found = c.put_in_order.new.found.items in
    let all : take c.loop-m.m-index items ≡ found = take_all c.loop-m.m-index items (omega arith) ∙ c.as_slice-m-items.ensures.value in
    let were = subst (λ (xs : List Occurrence). WereJoined xs c.loop-m.runs.items c.loop-m.hand) all c.loop-m.invariant in
    let runs = WereJoined-runs found c.loop-m.runs.items c.loop-m.hand were in
    record {
      runs = if_ok c.push_last.result _ _
          (λ pushed. subst (AreRunsOf (IsMember c.args.found.now.items)) (sym pushed)
          (AreRunsOf-same (IsMember found) (IsMember c.args.found.now.items) (with_hand c.loop-m.runs.items c.loop-m.hand) (λ x there. (c.put_in_order.ensures.same x).0 there) (λ x there. (c.put_in_order.ensures.same x).1 there) runs))
          c.push_last.ensures.pushed;
    }
