-- One line more is added.
use Rattle.acredact.proofs.Common.{GivesLine, IsAddedSome, [], ap, append_assoc, arith, length, length-append, lines_in, parts_left, rules, secrets_of, sym, ◌++◌, ◌+◌, ◌∙◌, ◌∷◌, ◌≡◌}
use Rattle.acredact.proofs.Loaded.{given_next}
use Rattle.acredact.proofs.patterns.add_lines.Goals as goal

pub loop-left-preserved : goal.loop-left-preserved
loop-left-preserved c =
    let (front, is, far, counts) = c.loop-left.invariant in
    let line = c.part_of.result.0.now in
    let cut : parts_left 10 c.loop-left.left ≡ line ∷ parts_left 10 c.part_of.result.1 = search rules in
    let given : IsAddedSome (λ more. GivesLine c.args.form line more (length front) (length front + 1)) (secrets_of c.loop-left.rules.items) (secrets_of c.add_listed.new.rules.items) = search rules in
    let behind : length (front ++ (line ∷ [])) ≡ length front + 1 = omega (arith, length-append front (line ∷ [])) in (
      front ++ (line ∷ []),
      is ∙ ap (λ l. front ++ l) cut ∙ sym (append_assoc front (line ∷ []) (parts_left 10 c.part_of.result.1)),
      rw behind (given_next far given),
      omega (arith, behind, counts, c.saturating_add-number.ensures),
    )

pub returns-clause-added : goal.returns-clause-added
returns-clause-added c =
    let (front, is, far, counts) = c.loop-left.invariant in
    let all : lines_in c.args.text.now ≡ front = search rules in
    record { more = far.more; grown = far.grown; of = rw all far.of }
