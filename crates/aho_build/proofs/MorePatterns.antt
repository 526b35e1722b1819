-- The trie of the first patterns stays what it is when patterns are appended.
use Rattle.std.proofs.Common.{◌≡◌, ℕ, zero, suc, ◌+◌, ◌<◌, ◌≤◌, Bool, true, false, not, ◌&&◌, ◌||◌, cond, nat_lt, List, [], ◌∷◌, ◌++◌, length, get_or, map, take, Option, Some, MatchBool, refl, sym, ap, subst, ◌∙◌, arith}
use Rattle.std.proofs.lemmas.List.{get_or_append_left, get_or_push, length_push, length-map, map-append}
use Rattle.std.specs.Prelude.{filter, sum_by}
use Rattle.std.specs.List.{flat_map, list_any, range_with_len}
use denote.Ref.{Bor}
use Rattle.aho_core.specs.declared.search.MatchKind.{MatchKind}
use Rattle.aho_core.specs.declared.search.MatchKind.TheVariants.{Standard, LeftmostFirst, LeftmostLongest}
use Rattle.aho_core.specs.Among.{is_node_among, own_among}
use Rattle.aho_core.specs.Bytes.{folded_word}
use Rattle.aho_core.specs.Patterns.{Patterns}
use Rattle.aho_core.specs.Trie.{begins, is_kept, is_word, kept_by, pattern_word}
use Rattle.aho_build.specs.Prefilters.{Collects}
use Rattle.aho_build.specs.declared.compiler.prefilter.PrefilterPatterns.{PrefilterPatterns}
use Rattle.aho_build.specs.declared.settings.Settings.{Settings}
use Rattle.aho_prefilter.specs.Prefilter.{with_word}
use Rattle.aho_build.specs.TrieGrowth.{IsNumbered, AwaitsWord, AddsPattern}
use Rattle.aho_build.specs.Trie.{HoldsFirst, HoldsTrie, names_before, names_of, longer, missing_at, IsTrie, IsTrieOf}
use Rattle.aho_build.specs.Items.{patterns_of}
use Rattle.aho_build.specs.Sizes.{kept_before, new_nodes, nodes_before, transitions_for, new_fronts}
use Rattle.aho_build.specs.StateNames.{name_at}
use Rattle.aho_table.specs.Table.{State, next_in}

pub list_any-same : (f g : ℕ → Bool) (a n : ℕ) → ((k : ℕ) → k < a + n → f k ≡ g k) → list_any f (range_with_len a n) ≡ list_any g (range_with_len a n)
list_any-same f g a zero same = refl
list_any-same f g a (suc n) same =
    ap (λ (b : Bool). b || list_any f (range_with_len (a + 1) n)) (same a (omega arith))
    ∙ ap (λ (b : Bool). g a || b) (list_any-same f g (a + 1) n (λ k less. same k (omega (arith, less))))

filter-same : (f g : ℕ → Bool) (a n : ℕ) → ((k : ℕ) → k < a + n → f k ≡ g k) → filter f (range_with_len a n) ≡ filter g (range_with_len a n)
filter-same f g a zero same = refl
filter-same f g a (suc n) same =
    ap (λ (b : Bool). cond b (a ∷ filter f (range_with_len (a + 1) n)) (filter f (range_with_len (a + 1) n))) (same a (omega arith))
    ∙ ap (λ (l : List ℕ). cond (g a) (a ∷ l) l) (filter-same f g (a + 1) n (λ k less. same k (omega (arith, less))))

filter-same_words : (f g : List ℕ → Bool) → ((word : List ℕ) → f word ≡ g word) → (words : List (List ℕ)) → filter f words ≡ filter g words
filter-same_words f g same [] = refl
filter-same_words f g same (word ∷ words) =
    ap (λ (b : Bool). cond b (word ∷ filter f words) (filter f words)) (same word)
    ∙ ap (λ (l : List (List ℕ)). cond (g word) (word ∷ l) l) (filter-same_words f g same words)

-- what a filter of first numbers is mapped to, or tested by
flat_map-filter_same : (f g : ℕ → List (List ℕ)) (test : ℕ → Bool) (a n : ℕ) → ((k : ℕ) → k < a + n → f k ≡ g k)
    → flat_map f (filter test (range_with_len a n)) ≡ flat_map g (filter test (range_with_len a n))
flat_map-filter_same f g test a zero same = refl
flat_map-filter_same f g test a (suc n) same =
    by (test a) (filter test (range_with_len (a + 1) n)) (flat_map-filter_same f g test (a + 1) n (λ k less. same k (omega (arith, less)))) (same a (omega arith))
  where
    by : (b : Bool) (ks : List ℕ) → flat_map f ks ≡ flat_map g ks → f a ≡ g a → flat_map f (cond b (a ∷ ks) ks) ≡ flat_map g (cond b (a ∷ ks) ks)
    by true ks rest here = ap (λ (l : List (List ℕ)). l ++ flat_map f ks) here ∙ ap (λ (l : List (List ℕ)). g a ++ l) rest
    by false ks rest here = rest

list_any-filter_same : (f g : ℕ → Bool) (test : ℕ → Bool) (a n : ℕ) → ((k : ℕ) → k < a + n → f k ≡ g k)
    → list_any f (filter test (range_with_len a n)) ≡ list_any g (filter test (range_with_len a n))
list_any-filter_same f g test a zero same = refl
list_any-filter_same f g test a (suc n) same =
    by (test a) (filter test (range_with_len (a + 1) n)) (list_any-filter_same f g test (a + 1) n (λ k less. same k (omega (arith, less)))) (same a (omega arith))
  where
    by : (b : Bool) (ks : List ℕ) → list_any f ks ≡ list_any g ks → f a ≡ g a → list_any f (cond b (a ∷ ks) ks) ≡ list_any g (cond b (a ∷ ks) ks)
    by true ks rest here = ap (λ (c : Bool). c || list_any f ks) here ∙ ap (λ (c : Bool). g a || c) rest
    by false ks rest here = rest

module _ (p : Patterns) (more : List (List ℕ)) where
  -- the patterns with more of them
  abbrev pub with_more : Patterns
  with_more = record { words = p.words ++ more; kind = p.kind; ignore_case = p.ignore_case }

  pattern_word-more : (k : ℕ) → k < length p.words → pattern_word with_more k ≡ pattern_word p k
  unfolding pattern_word
  pattern_word-more k below = ap (folded_word p) (get_or_append_left p.words more [] k below)

  kept_by-more : (kind : MatchKind) (k : ℕ) → k < length p.words → kept_by kind with_more k ≡ kept_by kind p k
  kept_by-more Standard k below = refl
  kept_by-more LeftmostLongest k below = refl
  kept_by-more LeftmostFirst k below =
      ap not
      (list_any-same (λ j. nat_lt (length (pattern_word with_more j)) (length (pattern_word with_more k)) && begins (pattern_word with_more j) (pattern_word with_more k))
      (λ j. nat_lt (length (pattern_word p j)) (length (pattern_word p k)) && begins (pattern_word p j) (pattern_word p k)) 0 k
      (λ j less.
      ap (λ (w : List ℕ). nat_lt (length w) (length (pattern_word with_more k)) && begins w (pattern_word with_more k)) (pattern_word-more j (omega (arith, less, below)))
      ∙ ap (λ (w : List ℕ). nat_lt (length (pattern_word p j)) (length w) && begins (pattern_word p j) w) (pattern_word-more k below)))

  pub is_kept-more : (k : ℕ) → k < length p.words → is_kept with_more k ≡ is_kept p k
  unfolding is_kept
  is_kept-more k below = kept_by-more p.kind k below

  is_node_among-appended : (n : ℕ) (word : List ℕ) → n ≤ length p.words → is_node_among with_more n word ≡ is_node_among p n word
  unfolding is_node_among
  is_node_among-appended n [] within = refl
  is_node_among-appended n (x ∷ word) within =
      list_any-same (λ k. is_kept with_more k && begins (x ∷ word) (pattern_word with_more k)) (λ k. is_kept p k && begins (x ∷ word) (pattern_word p k)) 0 n
      (λ k less.
      ap (λ (b : Bool). b && begins (x ∷ word) (pattern_word with_more k)) (is_kept-more k (omega (arith, less, within)))
      ∙ ap (λ (w : List ℕ). is_kept p k && begins (x ∷ word) w) (pattern_word-more k (omega (arith, less, within))))

  own_among-appended : (n : ℕ) (word : List ℕ) → n ≤ length p.words → own_among with_more n word ≡ own_among p n word
  unfolding own_among
  own_among-appended n word within =
      filter-same (λ k. is_kept with_more k && is_word (pattern_word with_more k) word) (λ k. is_kept p k && is_word (pattern_word p k) word) 0 n
      (λ k less.
      ap (λ (b : Bool). b && is_word (pattern_word with_more k) word) (is_kept-more k (omega (arith, less, within)))
      ∙ ap (λ (w : List ℕ). is_kept p k && is_word w word) (pattern_word-more k (omega (arith, less, within))))

  IsTrie-appended : (f g : List ℕ → Bool) (at_root : ℕ) (names : List (Option (List ℕ))) (states : List State) → ((word : List ℕ) → f word ≡ g word) → IsTrie p f at_root names states → IsTrie with_more g at_root names states
  IsTrie-appended f g at_root names states same trie = record {
    sized = trie.sized;
    dead = trie.dead;
    fail = trie.fail;
    root = trie.root;
    anchored = trie.anchored;
    complete = trie.complete;
    dead_loop = trie.dead_loop;
    unique = trie.unique;
    words = λ i word e. (sym (same word) ∙ (trie.words i word e).0, (trie.words i word e).1);
    closed = λ word byte plain h. sym (same word) ∙ trie.closed word byte plain (same (longer p word byte) ∙ h);
    depths = trie.depths;
    transitions = λ i word byte e small.
        subst (λ (b : Bool). MatchBool b (name_at names (next_in states i byte) ≡ Some (longer p word byte)) (next_in states i byte ≡ missing_at at_root word))
        (same (longer p word byte)) (trie.transitions i word byte e small);
    reached = trie.reached;
  }

  -- more patterns, of which none is in the trie yet
  IsTrieOf-appended : (n : ℕ) (names : List (Option (List ℕ))) (states : List State) → n ≤ length p.words → IsTrieOf p n names states → IsTrieOf with_more n names states
  IsTrieOf-appended n names states within of = record {
    trie = IsTrie-appended (is_node_among p n) (is_node_among with_more n) 1 names states (λ word. sym (is_node_among-appended n word within)) of.trie;
    lists = λ i word e. of.lists i word e ∙ sym (own_among-appended n word within);
    first = of.first;
  }

  -- which are kept, and what they add, is the same
  pub kept_before-appended : (n : ℕ) → n ≤ length p.words → kept_before with_more n ≡ kept_before p n
  kept_before-appended n within = filter-same (is_kept with_more) (is_kept p) 0 n (λ k less. is_kept-more k (omega (arith, less, within)))

  pub new_nodes-appended : (n : ℕ) → n < length p.words → new_nodes with_more n ≡ new_nodes p n
  new_nodes-appended n below =
      ap (λ (w : List ℕ). new_fronts with_more n w) (pattern_word-more n below)
      ∙ ap (λ (ks : List ℕ). filter (λ front. not (list_any (λ earlier. begins front (pattern_word with_more earlier)) ks)) (map (λ size. take size (pattern_word p n)) (range_with_len 1 (length (pattern_word p n)))))
      (kept_before-appended n (omega arith))
      ∙ filter-same_words (λ front. not (list_any (λ earlier. begins front (pattern_word with_more earlier)) (kept_before p n)))
      (λ front. not (list_any (λ earlier. begins front (pattern_word p earlier)) (kept_before p n)))
      (λ front. ap not (list_any-filter_same (λ earlier. begins front (pattern_word with_more earlier)) (λ earlier. begins front (pattern_word p earlier)) (is_kept p) 0 n
      (λ k less. ap (λ (w : List ℕ). begins front w) (pattern_word-more k (omega (arith, less, below))))))
      (map (λ size. take size (pattern_word p n)) (range_with_len 1 (length (pattern_word p n))))

  pub nodes_before-appended : (n : ℕ) → n ≤ length p.words → nodes_before with_more n ≡ nodes_before p n
  nodes_before-appended n within =
      ap (flat_map (new_nodes with_more)) (kept_before-appended n within)
      ∙ flat_map-filter_same (new_nodes with_more) (new_nodes p) (is_kept p) 0 n (λ k less. new_nodes-appended k (omega (arith, less, within)))

  HoldsFirst-appended : (n : ℕ) (states : List State) → n ≤ length p.words → HoldsFirst p n states → HoldsFirst with_more n states
  HoldsFirst-appended n states within holds =
      let words : nodes_before with_more n ≡ nodes_before p n = nodes_before-appended n within in
      record {
        trie = subst (λ (w : List (List ℕ)). IsTrieOf with_more n (names_of w) states) (sym words) (IsTrieOf-appended n (names_before p n) states within holds.trie);
        counted = record {
          state_count = holds.counted.state_count ∙ ap (λ (w : List (List ℕ)). 4 + length w) (sym words);
          transitions = holds.counted.transitions ∙ ap (λ (w : List (List ℕ)). 769 + sum_by (transitions_for p) w) (sym words);
          matches = holds.counted.matches ∙ ap (λ (ks : List ℕ). 1 + length ks) (sym (kept_before-appended n within));
        };
        listed = holds.listed;
      }

-- one item more
module _ (settings : Settings) (items : List (Bor (List ℕ))) (item : Bor (List ℕ)) where
  abbrev pub words_before : List (List ℕ)
  words_before = map (λ (i : Bor (List ℕ)). i.now) items

  abbrev pub patterns_next : Patterns
  patterns_next = patterns_of settings (items ++ item ∷ [])

  pub words_next : map (λ (i : Bor (List ℕ)). i.now) (items ++ item ∷ []) ≡ words_before ++ item.now ∷ []
  words_next = map-append (λ (i : Bor (List ℕ)). i.now) items (item ∷ [])

  -- what was collected for a prefilter, with one pattern more
  pub Collects-next : (collected : PrefilterPatterns) → Collects settings (with_word (patterns_of settings items) item.now) collected → Collects settings patterns_next collected
  Collects-next collected =
      subst (λ (words : List (List ℕ)). Collects settings (record { words = words; kind = settings.kind; ignore_case = settings.ignore_case }) collected) (sym words_next)

  pub IsNumbered-next : (number : ℕ) → number ≡ length words_before → IsNumbered patterns_next number settings item.now
  IsNumbered-next number e = record {
    kind_is = refl;
    case_is = refl;
    pattern_is = ap (λ (ws : List (List ℕ)). get_or ws number []) words_next ∙ get_or_push words_before item.now [] number (sym e);
  }

  pub HoldsFirst-next : (number : ℕ) (states : List State) → number ≡ length words_before
      → HoldsFirst (patterns_of settings items) (length words_before) states → HoldsFirst patterns_next number states
  HoldsFirst-next number states e holds =
      let appended = HoldsFirst-appended (patterns_of settings items) (item.now ∷ []) (length words_before) states (omega arith) holds in
      subst (λ (ws : List (List ℕ)). HoldsFirst (record { words = ws; kind = settings.kind; ignore_case = settings.ignore_case }) number states) (sym words_next)
      (subst (λ (n : ℕ). HoldsFirst (record { words = words_before ++ item.now ∷ []; kind = settings.kind; ignore_case = settings.ignore_case }) n states) (sym e) appended)

  -- the trie awaits the item
  pub AwaitsWord-next : (number : ℕ) (states : List State) → number ≡ length words_before → HoldsTrie (patterns_of settings items) states → AwaitsWord settings item.now states
  AwaitsWord-next number states e holds = (patterns_next, (number, (IsNumbered-next number e, HoldsFirst-next number states e holds)))

  pub count-next : (number : ℕ) → number ≡ length words_before → number + 1 ≡ length patterns_next.words
  count-next number e = omega (arith, e, ap length words_next, length_push words_before item.now)

  -- and holds it once it is added
  pub HoldsTrie-next : (number : ℕ) (old new : List State) → number ≡ length words_before → AddsPattern settings item.now number old new
      → HoldsTrie (patterns_of settings items) old → HoldsTrie patterns_next new
  HoldsTrie-next number old new e adds holds =
      subst (λ (n : ℕ). HoldsFirst patterns_next n new) (count-next number e) (adds patterns_next (IsNumbered-next number e) (HoldsFirst-next number old e holds))

  -- its length is the last
  pub lengths-next : (lens : List ℕ) (len : ℕ) → lens ≡ map length words_before → len ≡ length item.now → lens ++ len ∷ [] ≡ map length patterns_next.words
  lengths-next lens len e last =
      ap (λ (l : List ℕ). l ++ len ∷ []) e ∙ ap (λ (n : ℕ). map length words_before ++ n ∷ []) last
      ∙ sym (ap (map length) words_next ∙ map-append length words_before (item.now ∷ []))

  pub place-next : (lens : List ℕ) (place : ℕ) → lens ≡ map length words_before → place ≡ length lens → place ≡ length words_before
  place-next lens place e at = at ∙ ap length e ∙ length-map words_before length

-- the trie of all patterns is that of the last and those before it
pub HoldsFirst-counted : (p : Patterns) (number : ℕ) (states : List State) → number + 1 ≡ length p.words → HoldsTrie p states → HoldsFirst p (number + 1) states
HoldsFirst-counted p number states counted holds = subst (λ (n : ℕ). HoldsFirst p n states) (sym counted) holds
