-- UTF-8 is cut at bytes of ASCII.
use Rattle.std.proofs.Common.{◌≡◌, ℕ, suc, ◌+◌, ◌<◌, Bool, true, false, cond, List, [], ◌∷◌, ◌++◌, length, get_or, drop, refl, sym, ap, subst, ◌∙◌, append_assoc, length-append, arith}
use Rattle.std.specs.Prelude.{slice_index_or}
use Rattle.std.specs.List.{prefix_len}
use Rattle.std.specs.Str.{IsUtf8, IsCharBoundary}
use Rattle.std.proofs.lemmas.List.{take_at, drop_at}
use Rattle.std.proofs.Math.Seq.{get_or-append_seam}
use Rattle.std.proofs.lemmas.Str.{IsUtf8-take, IsUtf8-drop, IsUtf8-nil, IsCharBoundary-after_ascii}

boundary : (a c : List ℕ) (b : ℕ) → b < 128 → IsCharBoundary (a ++ b ∷ c) (length a)
boundary a c b h = let e : get_or (a ++ b ∷ c) (length a) 0 ≡ b = get_or-append_seam a b c 0 in (omega (arith, length-append a (b ∷ c)), λ k. λ q. absurd (omega arith))

pub before_ascii : (a c : List ℕ) (b : ℕ) → b < 128 → IsUtf8 (a ++ b ∷ c) → IsUtf8 a
before_ascii a c b h u = subst IsUtf8 (take_at a (b ∷ c) (length a) refl) (IsUtf8-take (a ++ b ∷ c) (length a) u (boundary a c b h))

pub behind_ascii : (a c : List ℕ) (b : ℕ) → b < 128 → IsUtf8 (a ++ b ∷ c) → IsUtf8 c
behind_ascii a c b h u =
    let e : get_or (a ++ b ∷ c) (length a) 0 ≡ b = get_or-append_seam a b c 0 in
    let all : a ++ b ∷ c ≡ (a ++ b ∷ []) ++ c = sym (append_assoc a (b ∷ []) c) in
    let len : length (a ++ b ∷ []) ≡ length a + 1 = omega (arith, length-append a (b ∷ [])) in
    let cut = IsUtf8-drop (a ++ b ∷ c) (length a + 1) u (IsCharBoundary-after_ascii (a ++ b ∷ c) (length a) u (omega (arith, length-append a (b ∷ c))) (omega arith)) in
    subst IsUtf8 (ap (drop (length a + 1)) all ∙ drop_at (a ++ b ∷ []) c (length a + 1) len) cut

pub tail_utf8 : (b : ℕ) (z : List ℕ) → b < 128 → IsUtf8 (b ∷ z) → IsUtf8 z
tail_utf8 b z h u = behind_ascii [] z b h u

-- behind a second byte
pub tail_second : (b c : ℕ) (z : List ℕ) → b < 128 → slice_index_or z 0 0 ≡ c → c < 128 → IsUtf8 (b ∷ z) → IsUtf8 (drop 1 z)
tail_second b c [] h e k u = IsUtf8-nil
tail_second b c (d ∷ z) h e k u = tail_utf8 d z (omega (arith, k, e)) (tail_utf8 b (d ∷ z) h u)

-- behind a run of bytes
pub tail_run : (p : ℕ → Bool) → ((c : ℕ) → p c ≡ true → c < 128) → (b : ℕ) (z : List ℕ) → b < 128 → IsUtf8 (b ∷ z) → IsUtf8 (drop (prefix_len p z) z)
tail_run p low b [] h u = IsUtf8-nil
tail_run p low b (c ∷ z) h u =
    let v = tail_utf8 b (c ∷ z) h u in
    elim (p c) as (λ q. p c ≡ q → IsUtf8 (drop (cond q (1 + prefix_len p z) 0) (c ∷ z))) [
      | true ↦ λ e.
          let more : suc (prefix_len p z) ≡ 1 + prefix_len p z = omega arith in
          subst (λ n. IsUtf8 (drop n (c ∷ z))) more (tail_run p low c z (low c e) v)
      | false ↦ λ e. v
    ] refl
