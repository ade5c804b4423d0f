use Rattle.std.proofs.Common.{◌≡◌, ◌+◌, ◌-◌, ◌<◌, ◌≤◌, ◌∙◌, arith}
use Rattle.key_index.specs.Fixed.{offset_of}
use Rattle.key_index.proofs.Placed.{before, scanned}
use Rattle.key_index.proofs.fixed.scan_fixed.Goals as goal

pub search_fixed-count-requires-clause-there : goal.search_fixed-count-requires-clause-there
search_fixed-count-requires-clause-there c =
    let there = (c.in_ok-len.ensures c.args.start).there in
    omega (arith, there, c.requires.whole)

pub entry_at-entry-requires-clause-there : goal.entry_at-entry-requires-clause-there
entry_at-entry-requires-clause-there c =
    let fine = c.in_ok-len.ensures c.args.start in
    let some = fine.some in
    let there = fine.there in
    let upto : offset_of c.args.level (c.saturating_sub.result + 1) ≤ offset_of c.args.level c.in_ok-len.len =
    before c.args.level (c.saturating_sub.result + 1) c.in_ok-len.len (omega (arith, c.saturating_sub.ensures, c.search_fixed-count.ensures.within, some)) in
    omega (arith, upto, there, c.requires.whole)

pub returns : goal.returns
returns c =
    let fine = c.in_ok-len.ensures c.args.start in
    let some = fine.some in
    let inside : c.saturating_sub.result < c.in_ok-len.len = omega (arith, c.saturating_sub.ensures, c.search_fixed-count.ensures.within, some) in
    let place : c.saturating_sub.result ≡ c.from.result - 1 = omega (arith, c.saturating_sub.ensures, c.from.ensures) in
    scanned c.args.level c.args.start c.in_ok-len.len c.args.aim c.args.bytes.now _ c.saturating_sub.result c.requires.whole fine inside place c.entry_at-entry.ensures
    (λ items rest whole front. c.from.ensures ∙ c.search_fixed-count.ensures.counts items rest whole front)
