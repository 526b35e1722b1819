use Rattle.std.proofs.Common.{◌≡◌, ◌∙◌, ◌+◌, ◌-◌, ℕ, List, take, drop, ap, arith}
use Rattle.aho_hybrid.specs.Layout.{Layout, child_of, record_word}
use Rattle.aho_hybrid.proofs.rows.Rows.child.Goals as goal

pub returns : goal.returns
returns c =
    let count : c.word-place.result + c.word-count.result - c.word-place.result ≡ c.word-count.result = omega arith in
    let moves : c.deref.result.now ≡ c.args.self.now.moves = c.deref.ensures.value ∙ ap (λ (t : Layout). t.moves) c.self.view_is in
    record {
      child =
          c.child_of.ensures.child
          ∙ ap (λ (n : ℕ). child_of (take n (drop c.word-place.result c.deref.result.now)) c.args.byte) (count ∙ c.word-count.ensures.word)
          ∙ ap (λ (n : ℕ). child_of (take (record_word c.args.self.now c.args.sid 4) (drop n c.deref.result.now)) c.args.byte) c.word-place.ensures.word
          ∙ ap (λ (l : List ℕ). child_of (take (record_word c.args.self.now c.args.sid 4) (drop (record_word c.args.self.now c.args.sid 3) l)) c.args.byte) moves;
    }
