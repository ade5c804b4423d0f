use Rattle.std.proofs.Common.{◌≡◌, ◌+◌, ◌-◌, ◌*◌, ◌/◌, ◌<◌, length, get_or, drop, set, true, false, arith, sym, ◌∙◌, ap}
use Rattle.std.proofs.lemmas.List.{length-set, drop-set-lt}
use Rattle.std.proofs.lemmas.Grind.{drop_more_same}
use Rattle.page_partition.specs.declared.table.Mark.TheVariants.{Left}
use Rattle.page_partition.specs.Scan.{is_deposited}
use Rattle.range_partition.specs.Share.{ended}
use Rattle.range_partition.specs.ShareLaws.{same_front, share_turn, share_skip, undeposited_more, ended_is}
use Rattle.range_partition.proofs.share.share.Goals as goal
use Rattle.range_partition.proofs.share.share.Goals.{then-not-is_deposited, else-not-is_deposited}

pub loop-p-preserved : goal.loop-p-preserved
loop-p-preserved c =
    let ms = c.loop-p.marks in
    let ms0 = c.args.marks.now in
    let p = c.loop-p.p in
    let front = same_front ms ms0 p (Left 0) c.loop-p.invariant.same_rest in
    let more = undeposited_more ms0 p (Left 0) (omega arith) in
    elim c.if-not-is_deposited.branch [
      | then-not-is_deposited w ↦
          let open' : is_deposited (get_or ms0 p (Left 0)) ≡ false = ap is_deposited (sym front) ∙ sym c.is_deposited.ensures ∙ w.if-not-is_deposited.true in
          let more' = simp open' at more in
          let inside : c.loop-p.place < c.args.left = omega (arith, c.loop-p.invariant.places) in
          let role : ((c.loop-p.place + 1) * w.from.result - 1) / w.from-then-not-is_deposited.result ≡ ended c.args.degree c.args.left c.args.degree c.loop-p.place =
          rw (w.from.ensures, w.from-then-not-is_deposited.ensures) (sym (ended_is c.args.left c.args.degree c.loop-p.place c.requires.low inside)) in
          let written = w.marks-is ∙ ap (λ q. set ms p (Left q)) role in
          let lt : p < p + 1 = omega arith in
          record {
            same_length = ap length written ∙ length-set ms p _ ∙ c.loop-p.invariant.same_length;
            same_rest = ap (drop (p + 1)) written ∙ drop-set-lt (p + 1) ms p _ lt ∙ drop_more_same ms ms0 p c.loop-p.invariant.same_rest;
            places = omega (arith, w.place-is, c.loop-p.invariant.places);
            shared = rw (written, w.place-is) (share_turn ms ms0 p c.loop-p.place c.args.left c.args.degree (Left 0) (omega (arith, c.loop-p.invariant.same_length)) (omega arith) open' ∙ c.loop-p.invariant.shared);
          }
      | else-not-is_deposited w ↦
          let shut : is_deposited (get_or ms0 p (Left 0)) ≡ true = ap is_deposited (sym front) ∙ sym c.is_deposited.ensures ∙ w.if-not-is_deposited.false in
          let more' = simp shut at more in
          record {
            same_length = ap length w.marks-is ∙ c.loop-p.invariant.same_length;
            same_rest = ap (drop (p + 1)) w.marks-is ∙ drop_more_same ms ms0 p c.loop-p.invariant.same_rest;
            places = omega (arith, w.place-is, c.loop-p.invariant.places);
            shared = rw (w.marks-is, w.place-is) (share_skip ms ms0 p c.loop-p.place c.args.left c.args.degree (Left 0) (omega (arith, c.loop-p.invariant.same_length)) (omega arith) c.loop-p.invariant.same_rest shut ∙ c.loop-p.invariant.shared);
          }
    ]
