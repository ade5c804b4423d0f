use Rattle.std.proofs.Common.{◌≡◌, ◌∙◌, None, ap}
use Rattle.pipeline.specs.Entries.{IsEntryFine, slot_fault}
use Rattle.pipeline.proofs.Oks.{if_ok_more}
use Rattle.pipeline.proofs.entries.run_entry.Goals as goal

pub returns-clause-fine : goal.returns-clause-fine
returns-clause-fine g c = λ image is.
    if_ok_more c.fetch_slot.result (λ rows. slot_fault c.args.pipe.now.columns c.args.heap_file c.in_ok-page.page c.in_ok-page.slot (image c.args.heap_file c.in_ok-page.page) ≡ None)
    (λ rows. IsEntryFine c.args.pipe.now.columns c.args.index.now image c.args.heap_file c.args.number)
    (λ rows fine. record { page = c.in_ok-page.page; slot = c.in_ok-page.slot; way = c.in_ok-page.ensures.path image is; fine = fine })
    (c.fetch_slot.ensures.fine image (ap g.P.PageSource.image c.in_ok-page.ensures.whole ∙ is))

pub returns-clause-told : goal.returns-clause-told
returns-clause-told g c = λ image entries e is holds here.
    let at = c.in_ok-page.ensures.told image entries e is holds here in
    rw (← at.0, ← at.1) (c.fetch_slot.ensures.told image (ap g.P.PageSource.image c.in_ok-page.ensures.whole ∙ is))
