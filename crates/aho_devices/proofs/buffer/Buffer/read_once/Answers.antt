use Rattle.std.proofs.Common.{◌≡◌, ◌+◌, ◌++◌, take, drop, ap, ◌∙◌, rules}
use Rattle.std.proofs.lemmas.List.{with_items_is, places}
use Rattle.std.proofs.Math.Seq.{take-add}
use Rattle.aho_devices.proofs.buffer.Buffer.read_once.Goals as goal

pub returns-clause-gained : goal.returns-clause-gained
returns-clause-gained g c =
    let b = c.self.inside in
    let is = c.self.view_is in
    let n = c.in_ok-count.count in
    let buf = c.read_between.new.buf in
    let same = with_items_is b.buf buf (search (rules, places)) in
    let front : take b.end buf ≡ c.args.self.now.bytes =
    c.in_ok-count.ensures.front ∙ ap (take b.end) c.as_mut_slice.ensures.value ∙ ap (λ v. v.bytes) is in
    record {
      bytes = take n (drop b.end buf);
      given = c.in_ok-count.ensures.given;
      held = ap (take (b.end + n)) same ∙ take-add b.end n buf ∙ ap (λ k. k ++ take n (drop b.end buf)) front;
      least = ap (λ v. v.least) is;
      size = ap (λ v. v.size) is;
    }
