-- An input is read piece by piece: each read puts its bytes behind those that stand at the space's front, and the input has lost them all.
use Rattle.std.proofs.Common.{◌≡◌, List, ◌++◌, ℕ, ◌+◌, ◌≤◌, Option, length, take, drop, sym, ◌∙◌, ap, subst, le_refl, drop_at, length-take-le}
use Rattle.std.proofs.lemmas.Slice.{take-put_mid_below}
use Rattle.std.proofs.KnownBytes.{Consumes-trans}
use Rattle.std.specs.Io.KnownBytes.{Consumes}
use borrow.Rule.Slice.PartMut.{put_mid, post_of}
use lib.Seq.{take-add, take-append-le}

-- Behind a front the space has what was read there.
read_behind : (from room n : ℕ) (space piece : List ℕ) → from ≤ length space → n ≤ length piece
    → take (from + n) (put_mid from room space piece) ≡ take from space ++ take n piece
read_behind from room n space piece within fits =
    let after = post_of from room space in
    take-add from n (put_mid from room space piece)
    ∙ ap (λ l. l ++ take n (drop from (put_mid from room space piece))) (take-put_mid_below _ _ _ _ _ (le_refl _) within)
    ∙ ap (λ l. take from space ++ take n l) (drop_at (take from space) (piece ++ after) from (length-take-le from space within))
    ∙ ap (λ l. take from space ++ l) (take-append-le n piece after fits)

-- So the input has lost both.
pub lost_more : (old middle new : Option (List ℕ)) (from room n : ℕ) (space piece : List ℕ) → from ≤ length space → n ≤ length piece
    → Consumes old middle (take from space) → Consumes middle new (take n piece)
    → Consumes old new (take (from + n) (put_mid from room space piece))
lost_more old middle new from room n space piece within fits first then =
    subst (Consumes old new) (sym (read_behind from room n space piece within fits)) (Consumes-trans _ _ _ _ _ first then)
