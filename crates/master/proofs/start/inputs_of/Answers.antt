use Rattle.std.proofs.Common.{◌≡◌, ◌+◌, ◌≤◌, ◌++◌, ◌∷◌, [], ℕ, List, sym, ◌∙◌, ap, arith, length, take, vec_len, Some, None, Option, slice_get}
use Rattle.std.proofs.lemmas.List.{take_all}
use Rattle.plan_tree.specs.Inputs.{inputs_of}
use Rattle.plan_tree.specs.Pieces.{piece_of}
use Rattle.master.proofs.Begins.{none_got, none_of, take_got}
use Rattle.master.proofs.start.inputs_of.Goals as goal

pub loop-input-preserved : goal.loop-input-preserved
loop-input-preserved c =
    let xs = inputs_of (piece_of c.args.fragment.now) in
    let n = vec_len c.loop-input.inputs in
    let size : c.len.result ≡ n = c.len.ensures in
    let got = ap (λ k. slice_get xs k) (sym size) ∙ sym c.input.ensures ∙ c.in-Some.is in
    let more : vec_len c.push.new.self ≡ n + 1 = (c.in_ok-push.ensures).len in
    (c.in_ok-push.ensures).items ∙ ap (λ (ys : List ℕ). ys ++ c.in-Some.input ∷ []) c.loop-input.invariant ∙ sym (take_got xs n c.in-Some.input got) ∙ ap (λ k. take k xs) (sym more)

pub returns : goal.returns
returns c =
    let xs = inputs_of (piece_of c.args.fragment.now) in
    let n = vec_len c.loop-input.inputs in
    let size : c.len.result ≡ n = c.len.ensures in
    let none = ap (λ k. slice_get xs k) (sym size) ∙ sym c.input.ensures ∙ none_of c.input.result c.in_default.not-Some in
    c.loop-input.invariant ∙ take_all n xs (none_got xs n none)
