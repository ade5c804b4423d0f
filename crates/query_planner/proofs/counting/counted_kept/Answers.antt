use Rattle.std.proofs.Common.{◌≡◌, ◌-◌, ◌<◌, ◌∙◌, ℕ, List, Option, Some, ap, arith, length, map, subst, slice_index_or}
use Rattle.std.specs.Prelude.{option_map, slice_get}
use Rattle.std.proofs.lemmas.List.{length-map}
use Rattle.std.proofs.lemmas.Option.{slice_get-get_or, slice_get-map}
use Rattle.heap_page.proofs.Found.{one_at, some_at}
use Rattle.kept_relations.specs.declared.kept.Kept.{Kept}
use Rattle.rel_meaning.specs.declared.query.Query.{Query}
use Rattle.rel_meaning.specs.Expression.{Question, question_of}
use Rattle.seq_optimizer.specs.declared.stats.VarStats.{VarStats}
use Rattle.query_planner.specs.Counted.{rows_made}
use Rattle.query_planner.proofs.counting.counted_kept.Goals as goal

question_there : (queries : List Query) (i : ℕ) (d : Query) → i < length queries →
    slice_get (map question_of queries) i ≡ Some (question_of (slice_index_or queries i d))
question_there queries i d lt = slice_get-map question_of queries i ∙
    ap (λ (o : Option Query). option_map question_of o) (slice_get-get_or queries i d lt)

-- the statement stands before this one
earlier : (kept : List Kept) (place n : ℕ) (here found : Kept) → slice_get kept place ≡ Some here →
    slice_get kept place ≡ Some found → here.statement < n → found.statement < n
earlier kept place n here found at other lt = subst (λ (k : Kept). k.statement < n)
    (one_at kept place here found at other) lt

pub kept_stats-requires : goal.kept_stats-requires
kept_stats-requires c =
    let known = c.args.known.now in
    let found = c.get-kept.result.now in
    let at : slice_get known.kept.now (c.args.relation - length known.relations.now) ≡ Some found =
    rw c.len.ensures at c.get-kept.ensures in
    let low = earlier known.kept.now (c.args.relation - length known.relations.now)
    (length c.args.table.now) c.requires.kept.here found c.requires.kept.at at
    c.requires.kept.before in
    c.requires.table.each found.statement _ c.index-table-statement.result
    (question_there known.queries.now found.statement c.index-known-statement.result
    (omega (arith, low, c.requires.table.within, length-map known.queries.now question_of)))
    (some_at c.args.table.now found.statement c.index-table-statement.result low
    c.index-table-statement.is)

pub returns : goal.returns
returns c =
    let known = c.args.known.now in
    let found = c.get-kept.result.now in
    let at : slice_get known.kept.now (c.args.relation - length known.relations.now) ≡ Some found =
    rw c.len.ensures at c.get-kept.ensures in
    let low = earlier known.kept.now (c.args.relation - length known.relations.now)
    (length c.args.table.now) c.requires.kept.here found c.requires.kept.at at
    c.requires.kept.before in
    let question = question_there known.queries.now found.statement c.index-known-statement.result
    (omega (arith, low, c.requires.table.within, length-map known.queries.now question_of)) in
    let list = some_at c.args.table.now found.statement c.index-table-statement.result low
    c.index-table-statement.is in
    record {
      pages = c.kept_stats.ensures.pages;
      rows = λ here q stats at_k at_q at_t.
          let same : found ≡ here = one_at known.kept.now
          (c.args.relation - length known.relations.now) found here at at_k in
          let one : question_of (slice_index_or known.queries.now found.statement
          c.index-known-statement.result) ≡ q = one_at (map question_of known.queries.now)
          found.statement _ q question (rw (← same) at at_q) in
          let other : c.index-table-statement.result ≡ stats = one_at c.args.table.now
          found.statement c.index-table-statement.result stats list (rw (← same) at at_t) in
          c.kept_stats.ensures.rows ∙ ap (λ (x : Question). rows_made x
          c.index-table-statement.result) one ∙ ap (λ (s : List VarStats). rows_made q s) other;
      interval = c.kept_stats.ensures.interval;
      height = c.kept_stats.ensures.height;
    }
