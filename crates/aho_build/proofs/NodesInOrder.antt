-- The nodes in the order in which a build meets them: what one byte more and one pattern more append.
use Rattle.std.proofs.Common.{◌≡◌, ℕ, zero, suc, ◌+◌, ◌<◌, Bool, true, false, not, ◌&&◌, ◌||◌, cond, List, [], ◌∷◌, ◌++◌, length, map, take, Option, Some, refl, sym, ap, ◌∙◌, arith, append_assoc}
use Rattle.std.proofs.lemmas.Grind.{flat_map-append}
use Rattle.std.proofs.lemmas.List.{append-nil, length_push, map-append, take_all, take-append-le}
use Rattle.std.proofs.lemmas.List.FromFn.{filter_of_map_range_with_len_more}
use Rattle.std.specs.Prelude.{filter}
use Rattle.std.specs.List.{flat_map, list_any, range_with_len}
use Rattle.aho_core.specs.Among.{is_node_among}
use Rattle.aho_core.specs.Patterns.{Patterns}
use Rattle.aho_core.specs.Trie.{begins, is_kept, pattern_word}
use Rattle.aho_laws.proofs.Begins.{begins-from}
use Rattle.aho_laws.proofs.Ranges.{filter-range_with_len_more}
use Rattle.aho_build.proofs.Nodes.{is_node_among-front}
use Rattle.aho_build.specs.Sizes.{kept_before, new_nodes, nodes_before, new_fronts, nodes_with}
use Rattle.aho_build.specs.Trie.{names_of}

any-filter : (f g : ℕ → Bool) (ks : List ℕ) → list_any f (filter g ks) ≡ list_any (λ k. g k && f k) ks
any-filter f g [] = refl
any-filter f g (k ∷ ks) = by (g k) (f k) (list_any f (filter g ks)) ∙ ap (λ (b : Bool). (g k && f k) || b) (any-filter f g ks)
  where
    by : (b c d : Bool) → list_any f (cond b (k ∷ filter g ks) (filter g ks)) ≡ ((b && f k) || list_any f (filter g ks))
    by true c d = refl
    by false c d = refl

map_range-same : {X : Type 0} (f g : ℕ → X) (a n : ℕ) → ((k : ℕ) → k < a + n → f k ≡ g k) → map f (range_with_len a n) ≡ map g (range_with_len a n)
map_range-same {X} f g a zero same = refl
map_range-same {X} f g a (suc n) same =
    ap (λ (x : X). x ∷ map f (range_with_len (a + 1) n)) (same a (omega arith))
    ∙ ap (λ (l : List X). g a ∷ l) (map_range-same f g (a + 1) n (λ k less. same k (omega (arith, less))))

module _ (p : Patterns) where
  module _ (number : ℕ) where
    abbrev is_new : List ℕ → Bool
    is_new word = not (list_any (λ earlier. begins word (pattern_word p earlier)) (kept_before p number))

    is_new-cons : (x : ℕ) (word : List ℕ) → is_new (x ∷ word) ≡ not (is_node_among p number (x ∷ word))
    unfolding is_node_among
    is_new-cons x word = ap not (any-filter (λ earlier. begins (x ∷ word) (pattern_word p earlier)) (is_kept p) (range_with_len 0 number))

    is_new-push : (word : List ℕ) (byte : ℕ) → is_new (word ++ byte ∷ []) ≡ not (is_node_among p number (word ++ byte ∷ []))
    is_new-push [] byte = is_new-cons byte []
    is_new-push (x ∷ word) byte = is_new-cons x (word ++ byte ∷ [])

    -- one byte more
    new_fronts-push : (word : List ℕ) (byte : ℕ)
        → new_fronts p number (word ++ byte ∷ []) ≡ new_fronts p number word ++ cond (not (is_node_among p number (word ++ byte ∷ []))) ((word ++ byte ∷ []) ∷ []) []
    new_fronts-push word byte =
        let whole : List ℕ = word ++ byte ∷ [] in
        let last : take (1 + length word) whole ≡ whole = take_all (1 + length word) whole (omega (arith, length_push word byte)) in
        ap (λ (n : ℕ). filter is_new (map (λ size. take size whole) (range_with_len 1 n))) (length_push word byte)
        ∙ filter_of_map_range_with_len_more is_new (λ size. take size whole) 1 (length word) (1 + length word) refl
        ∙ ap (λ (l : List ℕ). filter is_new (map (λ size. take size whole) (range_with_len 1 (length word))) ++ cond (is_new l) (l ∷ []) []) last
        ∙ ap (λ (b : Bool). filter is_new (map (λ size. take size whole) (range_with_len 1 (length word))) ++ cond b (whole ∷ []) []) (is_new-push word byte)
        ∙ ap (λ (l : List (List ℕ)). filter is_new l ++ cond (not (is_node_among p number whole)) (whole ∷ []) [])
        (map_range-same (λ size. take size whole) (λ size. take size word) 1 (length word) (λ k less. take-append-le k word (byte ∷ []) (omega (arith, less))))

    -- any bytes more
    pub new_fronts-append : (word more : List ℕ) → (rest : List (List ℕ)) × (new_fronts p number (word ++ more) ≡ new_fronts p number word ++ rest)
    new_fronts-append word [] = ([], ap (new_fronts p number) (append-nil word) ∙ sym (append-nil (new_fronts p number word)))
    new_fronts-append word (byte ∷ more) =
        let further = new_fronts-append (word ++ byte ∷ []) more in
        let one : List (List ℕ) = cond (not (is_node_among p number (word ++ byte ∷ []))) ((word ++ byte ∷ []) ∷ []) [] in (
          one ++ further.0,
          ap (new_fronts p number) (sym (append_assoc word (byte ∷ []) more)) ∙ further.1
              ∙ ap (λ (l : List (List ℕ)). l ++ further.0) (new_fronts-push word byte)
              ∙ append_assoc (new_fronts p number word) one further.0,
        )

    -- the nodes with no byte, with one byte that is no node yet, and with one that is
    pub nodes_with-none : nodes_with p number [] ≡ nodes_before p number
    nodes_with-none = append-nil (nodes_before p number)

    pub nodes_with-new : (word : List ℕ) (byte : ℕ) → is_node_among p number (word ++ byte ∷ []) ≡ false
        → nodes_with p number (word ++ byte ∷ []) ≡ nodes_with p number word ++ (word ++ byte ∷ []) ∷ []
    nodes_with-new word byte absent =
        ap (λ (l : List (List ℕ)). nodes_before p number ++ l)
        (new_fronts-push word byte ∙ ap (λ (b : Bool). new_fronts p number word ++ cond (not b) ((word ++ byte ∷ []) ∷ []) []) absent)
        ∙ sym (append_assoc (nodes_before p number) (new_fronts p number word) ((word ++ byte ∷ []) ∷ []))

    pub nodes_with-there : (word : List ℕ) (byte : ℕ) → is_node_among p number (word ++ byte ∷ []) ≡ true
        → nodes_with p number (word ++ byte ∷ []) ≡ nodes_with p number word
    nodes_with-there word byte there =
        ap (λ (l : List (List ℕ)). nodes_before p number ++ l)
        (new_fronts-push word byte ∙ ap (λ (b : Bool). new_fronts p number word ++ cond (not b) ((word ++ byte ∷ []) ∷ []) []) there
        ∙ append-nil (new_fronts p number word))

    -- a node of an earlier pattern has none that is new
    new_fronts-nodes : (word more : List ℕ) → is_node_among p number (word ++ more) ≡ true → new_fronts p number (word ++ more) ≡ new_fronts p number word
    new_fronts-nodes word [] node = ap (new_fronts p number) (append-nil word)
    new_fronts-nodes word (byte ∷ more) node =
        let whole : (word ++ byte ∷ []) ++ more ≡ word ++ byte ∷ more = append_assoc word (byte ∷ []) more in
        let front : is_node_among p number (word ++ byte ∷ []) ≡ true =
        is_node_among-front p number (word ++ byte ∷ []) (word ++ byte ∷ more) node (begins-from (word ++ byte ∷ []) more (word ++ byte ∷ more) whole) in
        ap (new_fronts p number) (sym whole)
        ∙ new_fronts-nodes (word ++ byte ∷ []) more (ap (is_node_among p number) whole ∙ node)
        ∙ new_fronts-push word byte
        ∙ ap (λ (b : Bool). new_fronts p number word ++ cond (not b) ((word ++ byte ∷ []) ∷ []) []) front
        ∙ append-nil (new_fronts p number word)

    pub nodes_with-node : (word : List ℕ) → is_node_among p number word ≡ true → nodes_with p number word ≡ nodes_before p number
    nodes_with-node word node = ap (λ (l : List (List ℕ)). nodes_before p number ++ l) (new_fronts-nodes [] word node) ∙ append-nil (nodes_before p number)

    kept_before-more : kept_before p (number + 1) ≡ kept_before p number ++ filter (is_kept p) (number ∷ [])
    kept_before-more = filter-range_with_len_more (is_kept p) number

    -- one pattern more
    pub kept_before-kept : is_kept p number ≡ true → kept_before p (number + 1) ≡ kept_before p number ++ number ∷ []
    kept_before-kept kept = kept_before-more ∙ ap (λ (b : Bool). kept_before p number ++ cond b (number ∷ []) []) kept

    pub kept_before-left_out : is_kept p number ≡ false → kept_before p (number + 1) ≡ kept_before p number
    kept_before-left_out left = kept_before-more ∙ ap (λ (b : Bool). kept_before p number ++ cond b (number ∷ []) []) left ∙ append-nil (kept_before p number)

    pub nodes_before-kept : is_kept p number ≡ true → nodes_before p (number + 1) ≡ nodes_with p number (pattern_word p number)
    nodes_before-kept kept =
        ap (flat_map (new_nodes p)) (kept_before-kept kept) ∙ flat_map-append (new_nodes p) (kept_before p number) (number ∷ [])
        ∙ ap (λ (l : List (List ℕ)). nodes_before p number ++ l) (append-nil (new_nodes p number))

    pub nodes_before-left_out : is_kept p number ≡ false → nodes_before p (number + 1) ≡ nodes_before p number
    nodes_before-left_out left = ap (flat_map (new_nodes p)) (kept_before-left_out left)

-- the name of one more node
pub names_of-push : (words : List (List ℕ)) (word : List ℕ) → names_of (words ++ word ∷ []) ≡ names_of words ++ Some word ∷ []
names_of-push words word = ap (λ (l : List (Option (List ℕ))). names_of [] ++ l) (map-append (λ (w : List ℕ). Some w) words (word ∷ []))
