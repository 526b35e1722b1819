-- One pattern more.
use Rattle.std.proofs.Common.{◌≡◌, ◌<◌, inl, inr, ℕ, max, List, [], get_or, length, ◌∙◌, ap, subst, arith}
use denote.Ref.{Bor}
use Rattle.std.proofs.lemmas.Bool.{cases_lt}
use Rattle.std.proofs.lemmas.List.{get_or-map, length-map}
use Rattle.aho_core.specs.Patterns.{Patterns, pattern_at}
use Rattle.aho_core.specs.Replacement.{pieces_of}
use Rattle.aho_backward.specs.Overhang.{HasBehind}
use Rattle.aho_backward.proofs.Overhangs.{reached-more}
use Rattle.aho_backward.proofs.overhang.longest_overhang.Goals as goal

word-at : (p : Patterns) (patterns : List (Bor (List ℕ))) (number : ℕ) (d : Bor (List ℕ)) → p.words ≡ pieces_of patterns → number < length patterns → pattern_at p number ≡ (get_or patterns number d).now
word-at p patterns number d words lt =
    ap (λ (ws : List (List ℕ)). get_or ws number []) words
    ∙ get_or-map (λ (piece : Bor (List ℕ)). piece.now) patterns number d [] lt

pub loop-pattern-preserved : goal.loop-pattern-preserved
loop-pattern-preserved g c p of words =
    let inv = c.loop-pattern.invariant p of words in
    let index = c.loop-pattern.pattern-index in
    let count : length p.words ≡ length c.args.patterns.now = ap length words ∙ length-map c.args.patterns.now (λ (piece : Bor (List ℕ)). piece.now) in
    let within : index < length p.words = omega (arith, count, c.loop-pattern-test.true) in
    let most : c.max-most.result ≡ max c.loop-pattern.most c.overhang_of.result = grind arith in
    let same = word-at p c.args.patterns.now index _ words c.loop-pattern-test.true in
    record {
      reached = reached-more p c.loop-pattern.most c.overhang_of.result c.max-most.result index most within (c.overhang_of.ensures.some p index of within same) inv.reached;
      greatest = λ number n before has.
          elim (cases_lt number index) [
            | inl earlier ↦ (let bound = inv.greatest number n earlier has in omega (arith, most, bound))
            | inr here ↦
                (let is : number ≡ index = omega arith in
                let bound = c.overhang_of.ensures.most p index n of within same (subst (λ (k : ℕ). HasBehind p k n) is has) in
                omega (arith, most, bound))
          ];
    }

pub returns : goal.returns
returns g c = record {
  overhang = λ p of words.
      let inv = c.loop-pattern.invariant p of words in
      let count : length p.words ≡ length c.args.patterns.now = ap length words ∙ length-map c.args.patterns.now (λ (piece : Bor (List ℕ)). piece.now) in
      record { reached = inv.reached; greatest = λ number n within has. inv.greatest number n (omega (arith, count, c.loop-pattern-test.false)) has };
}
