-- Drives that are mounted one by one.
use Rattle.std.proofs.Common.{◌≡◌, ℕ, zero, suc, List, [], ◌∷◌, ◌++◌, length, Some, sym, subst}
use Rattle.std.specs.Prelude.{slice_get}
use Rattle.xp_outside.specs.declared.memory_drive.MemDrive.{MemDrive}
use Rattle.xp_outside.specs.Memory.{IsMounted, AreMounted, list_at}

-- what holds of each place of a list, and of the place behind it, holds of each place of both
pub each_more : {T : Type 0} (P : ℕ → T → Type 0) (items : List T) (last : T) →
    ((place : ℕ) (item : T) → slice_get items place ≡ Some item → P place item) → P (length items) last →
    (place : ℕ) (item : T) → slice_get (items ++ last ∷ []) place ≡ Some item → P place item
each_more P [] last h p zero item at = let e : last ≡ item = cc in subst (P 0) e p
each_more P [] last h p (suc place) item at = absurd cc
each_more P (x ∷ xs) last h p zero item at = h zero item at
each_more P (x ∷ xs) last h p (suc place) item at =
    each_more (λ n i. P (suc n) i) xs last (λ n i e. h (suc n) i e) p place item at

pub mounted_more : (size : ℕ) (reads writes : List ℕ) (drives : List MemDrive) (drive : MemDrive) (place : ℕ) → AreMounted size reads writes drives →
    length drives ≡ place → IsMounted size (list_at reads place) (list_at writes place) drive → AreMounted size reads writes (drives ++ drive ∷ [])
mounted_more size reads writes drives drive place h e one = record {
  each = each_more (λ n d. IsMounted size (list_at reads n) (list_at writes n) d) drives drive h.each (subst (λ n. IsMounted size (list_at reads n) (list_at writes n) drive) (sym e) one);
}
