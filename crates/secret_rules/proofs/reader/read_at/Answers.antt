use Rattle.std.proofs.Common.{◌≡◌, ◌∙◌, ap₂, ℕ, ap, arith, false, Some, None}
use Rattle.regex.specs.Bytes.{matcher_pattern}
use Rattle.regex.proofs.SearchLemmas.{leftmost_within}
use Rattle.secret_rules.proofs.Alike.{found_as_by}
use Rattle.secret_rules.proofs.reader.read_at.Goals as goal

pub returns-in_err-found-clause-found : goal.returns-in_err-found-clause-found
returns-in_err-found-clause-found c = λ re same. rw c.from_residual.ensures
    (found_as_by c.args.line.now c.type_inv.line c.captures_read_at.new.locations (matcher_pattern c.args.matcher.now) re same c.args.start None c.in_err-found.ensures.found)

pub returns-clause-found : goal.returns-clause-found
returns-clause-found c = λ re same.
    let f = c.in_ok-found.ensures.found in
    let whole : ℕ × ℕ = (c.start.result, c.end.result) in
    let is : whole ≡ (c.in_ok-found.found.start, c.in_ok-found.found.end) = ap₂ (λ (x : ℕ) (y : ℕ). (x, y)) c.start.ensures c.end.ensures in
    found_as_by c.args.line.now c.type_inv.line c.captures_read_at.new.locations (matcher_pattern c.args.matcher.now) re same c.args.start (Some whole)
    (f.0, f.1, (is ∙ f.2.0, f.2.1))

pub returns-clause-within : goal.returns-clause-within
returns-clause-within c =
    let f = c.in_ok-found.ensures.found in
    let w = leftmost_within (matcher_pattern c.args.matcher.now) c.args.line.now false c.args.start f.0 f.1 in
    let s = ap (λ (r : ℕ × ℕ). r.0) f.2.0 in
    let e = ap (λ (r : ℕ × ℕ). r.1) f.2.0 in
    (omega (arith, c.start.ensures), omega (arith, c.start.ensures, c.end.ensures), omega (arith, c.end.ensures))
