use Rattle.std.proofs.Common.{◌≡◌, ◌∙◌, ℕ, ◌+◌, ◌*◌, ◌-◌, List, ap, arith, drop, get_or, length, take}
use Rattle.std.proofs.lemmas.List.{get_or_read}
use Rattle.aho_levels.specs.Layout.{StateTables, child_bytes, first_child}
use Rattle.aho_levels.proofs.Rows.{row-set}
use Rattle.aho_levels.proofs.links.set_children.Goals as goal

pub returns : goal.returns
returns c =
    let old = c.args.states.now in
    let inside = c.states.inside in
    let sid = c.args.sid in
    let sized : length inside.firsts.items ≡ length old.bytes + 1 = ap (λ (t : StateTables). length t.firsts) c.states.view_is ∙ c.requires.sized in
    let first : c.as_usize-first.result ≡ first_child old sid =
    c.as_usize-first.ensures.value
    ∙ get_or_read inside.firsts.items c.as_usize.result c.index.result.now (omega (arith, c.as_usize.ensures.value, sized, c.requires.state)) c.index.ensures 0
    ∙ ap (λ (n : ℕ). get_or inside.firsts.items n 0) c.as_usize.ensures.value
    ∙ ap (λ (t : StateTables). get_or t.firsts sid 0) c.states.view_is in
    let end : c.as_usize-end.result ≡ first_child old (sid + 1) =
    c.as_usize-end.ensures.value
    ∙ get_or_read inside.firsts.items (c.as_usize-2.result + 1) c.index-2.result.now (omega (arith, c.as_usize-2.ensures.value, sized, c.requires.state)) c.index-2.ensures 0
    ∙ ap (λ (n : ℕ). get_or inside.firsts.items (n + 1) 0) c.as_usize-2.ensures.value
    ∙ ap (λ (t : StateTables). get_or t.firsts (sid + 1) 0) c.states.view_is in
    let bytes : take (c.as_usize-end.result - c.as_usize-first.result) (drop c.as_usize-first.result c.deref.result.now) ≡ child_bytes old sid =
    ap (λ (l : List ℕ). take (c.as_usize-end.result - c.as_usize-first.result) (drop c.as_usize-first.result l)) (c.deref.ensures.value ∙ ap (λ (t : StateTables). t.bytes) c.states.view_is)
    ∙ ap (λ (n : ℕ). take (n - c.as_usize-first.result) (drop c.as_usize-first.result old.bytes)) end
    ∙ ap (λ (n : ℕ). take (first_child old (sid + 1) - n) (drop n old.bytes)) first in
    let set =
    row-set old sid inside.ignore_case _ c.as_usize-first.result (c.as_usize-row.result * 256) inside.rows.items c.set_entries.new.rows.items
    (ap (λ (t : StateTables). t.ignore_case) c.states.view_is) bytes first (ap (λ (n : ℕ). n * 256) c.as_usize-row.ensures.value) (ap (λ (t : StateTables). t.rows) c.states.view_is)
    c.set_entries.ensures.set in
    record {
      set = record {
        trie = record {
          firsts = ap (λ (t : StateTables). t.firsts) c.states.view_is;
          bytes = ap (λ (t : StateTables). t.bytes) c.states.view_is;
          depths = ap (λ (t : StateTables). t.depths) c.states.view_is;
          case_rule = ap (λ (t : StateTables). t.ignore_case) c.states.view_is;
        };
        fails = ap (λ (t : StateTables). t.fails) c.states.view_is;
        counted = ap (λ (t : StateTables). t.row_count) c.states.view_is;
        sized = set.sized;
        kept = set.kept;
        entry = set.entry;
      };
    }
