-- A piece more was read.
use Rattle.acgrep.proofs.Common.{Piece, common_steps, take_rest}
use Rattle.std.proofs.Common.{◌++◌, ◌-◌, ◌<◌, ◌∙◌, ◌∷◌, ◌≡◌, List, Option, Some, [], ap, arith, drop, length, sym, take, ℕ}
use Rattle.std.specs.Prelude.{option_map}
use Rattle.acgrep.specs.Formats.{format_pieces, format_text, front_by, unknown_in}
use Rattle.acgrep.proofs.Formatted.{piece_step, pieces_more, text_more}
use Rattle.acgrep.proofs.format.read_format.Goals as goal

pub loop-rest-preserved : goal.loop-rest-preserved
loop-rest-preserved c =
    let rest = c.loop-rest.rest.now in
    let front = c.in-Some.front in
    let items = c.loop-rest.pieces.items in
    let left = take (length rest - front.len) (drop front.len rest) in
    let some : 0 < length rest = grind (arith, common_steps, c.is_empty.ensures, c.loop-rest-test.true) in
    let is : front_by rest ≡ Some front = sym c.front_of.ensures.front ∙ c.in-Some.is in
    let step = piece_step rest front some c.in-Some.ensures.some is in
    let behind : drop front.len rest ≡ left = sym (take_rest rest front.len) in
    record {
      read = c.loop-rest.invariant.read
          ∙ ap (λ (o : Option (List Piece)). option_map (λ pieces. items ++ pieces) o) step.0
          ∙ pieces_more items front.piece (format_pieces (drop front.len rest))
          ∙ ap (λ (l : List ℕ). option_map (λ pieces. (items ++ (front.piece ∷ [])) ++ pieces) (format_pieces l)) behind
          ∙ ap (λ (l : List Piece). option_map (λ pieces. l ++ pieces) (format_pieces left)) (sym c.in_ok-add_piece-in-Some.ensures.added);
      text = ap (λ (l : List Piece). format_text l ++ left) c.in_ok-add_piece-in-Some.ensures.added ∙ ap (λ (l : List ℕ). format_text (items ++ (front.piece ∷ [])) ++ l) (sym behind)
          ∙ text_more items front rest c.in-Some.ensures.taken ∙ c.loop-rest.invariant.text;
      unknown = c.loop-rest.invariant.unknown ∙ step.1 ∙ ap unknown_in behind;
    }
