-- The numbers of the states that are drawn, one after another.
use Rattle.std.proofs.Common.{◌≡◌, ℕ, zero, suc, ◌+◌, List, [], ◌∷◌, ◌++◌, map, sym, ap, ◌∙◌, arith}
use Rattle.std.specs.List.{All}
use Rattle.std.specs.Prelude.{Bool, true, false, if◌then◌else◌}
use Rattle.std.proofs.lemmas.List.{append-nil, map-append}
use Rattle.std.proofs.lemmas.List.Elements.{All-append}
use Rattle.aho_laws.proofs.Ranges.{filter-range_with_len_more}
use Rattle.aho_corasick.specs.declared.noncontiguous.NFA.{NFA}
use Rattle.acdraw.specs.Picture.{drawn_of, is_drawn}
use Rattle.acdraw.specs.declared.picture.Node.{Node}

-- one that is left out
pub drawn_same : (nfa : NFA) (anchored : Bool) (n : ℕ) → is_drawn nfa anchored n ≡ false → drawn_of nfa anchored (n + 1) ≡ drawn_of nfa anchored n
drawn_same nfa anchored n e =
    filter-range_with_len_more (is_drawn nfa anchored) n
    ∙ ap (λ (b : Bool). drawn_of nfa anchored n ++ (if b then n ∷ [] else [])) e
    ∙ append-nil (drawn_of nfa anchored n)

-- any other is drawn
pub drawn_more : (nfa : NFA) (anchored : Bool) (n : ℕ) → is_drawn nfa anchored n ≡ true → drawn_of nfa anchored (n + 1) ≡ drawn_of nfa anchored n ++ n ∷ []
drawn_more nfa anchored n e = filter-range_with_len_more (is_drawn nfa anchored) n ∙ ap (λ (b : Bool). drawn_of nfa anchored n ++ (if b then n ∷ [] else [])) e

-- and so are its nodes
pub nodes_more : (nfa : NFA) (anchored : Bool) (nodes : List Node) (node : Node) (n : ℕ) → is_drawn nfa anchored n ≡ true → node.sid ≡ n
    → map (λ (node : Node). node.sid) nodes ≡ drawn_of nfa anchored n → map (λ (node : Node). node.sid) (nodes ++ node ∷ []) ≡ drawn_of nfa anchored (n + 1)
nodes_more nfa anchored nodes node n e is so_far =
    map-append (λ (node : Node). node.sid) nodes (node ∷ [])
    ∙ ap (λ (l : List ℕ). l ++ node.sid ∷ []) so_far
    ∙ ap (λ (sid : ℕ). drawn_of nfa anchored n ++ sid ∷ []) is
    ∙ sym (drawn_more nfa anchored n e)

-- what holds of each holds with one more of which it holds
pub all_more : {A : Type 0} (P : A → Type 0) (xs : List A) (x : A) → All P xs → P x → All P (xs ++ x ∷ [])
all_more {A} P xs x all here = All-append P xs (x ∷ []) all one
  where
    one : All P (x ∷ [])
    one zero d lt = here
    one (suc k) d lt = absurd (omega arith)
