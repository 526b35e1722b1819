use Rattle.std.proofs.Common.{◌≡◌, ◌∙◌, ap, Some, arith, List, ℕ, length}
use Rattle.std.specs.List.{slice_get}
use Rattle.secret_rules.proofs.Placed.{ArePlacesOf-added, slice_get-append_last}
use Rattle.secret_rules.proofs.readers.place_of.Goals as goal

pub returns-clause-are : goal.returns-clause-are
returns-clause-are c =
    ArePlacesOf-added c.args.rules.now c.args.readers.now.items c.args.places.now c.args.number c.in_ok-expression.expression.now c.requires.are c.requires.within
    (λ rule at. c.in_ok-expression.ensures.source rule at) c.len-place.result c.push_reader.new.readers.items (omega (arith, c.len-place.ensures, c.args.readers.now.ok)) c.in_ok-push_reader.ensures.added

pub returns-clause-place : goal.returns-clause-place
returns-clause-place c = λ rule at.
    let last : c.len-place.result ≡ length c.args.readers.now.items = omega (arith, c.len-place.ensures, c.args.readers.now.ok) in
    ap (slice_get c.push_reader.new.readers.items) last
    ∙ ap (λ (xs : List (List ℕ)). slice_get xs (length c.args.readers.now.items)) c.in_ok-push_reader.ensures.added
    ∙ slice_get-append_last c.args.readers.now.items c.in_ok-expression.expression.now
    ∙ ap Some (c.in_ok-expression.ensures.source rule at)
