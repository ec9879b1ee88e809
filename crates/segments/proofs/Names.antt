-- The segment registers by their names. Assumes nothing.
use mathlib.Core.Path.{◌≡◌, refl}
use mathlib.Core.Bool.{false}
use Rattle.fields.proofs.Cases.{unlike}
use Rattle.memory.specs.declared.Segment.{Segment}
use Rattle.segments.specs.declared.SegmentName.{SegmentName}
use Rattle.segments.specs.declared.SegmentName.TheVariants.{Es, Cs, Ss, Ds, Fs, Gs, Ldtr, Tr}
use Rattle.segments.specs.declared.Segments.{Segments}
use Rattle.segments.specs.Segments.{is_cs, segment_named, with_named}

-- what holds of each segment register's name holds of any
pub by_name : (P : SegmentName → Type 0) → P Es → P Cs → P Ss → P Ds → P Fs → P Gs → P Ldtr → P Tr → (n : SegmentName) → P n
by_name P es cs ss ds fs gs ldtr tr Es = es
by_name P es cs ss ds fs gs ldtr tr Cs = cs
by_name P es cs ss ds fs gs ldtr tr Ss = ss
by_name P es cs ss ds fs gs ldtr tr Ds = ds
by_name P es cs ss ds fs gs ldtr tr Fs = fs
by_name P es cs ss ds fs gs ldtr tr Gs = gs
by_name P es cs ss ds fs gs ldtr tr Ldtr = ldtr
by_name P es cs ss ds fs gs ldtr tr Tr = tr

-- CS apart, a register goes by the seven others
pub without_cs : (s : Segments) (c d : Segment) (n : SegmentName) → is_cs n ≡ false → segment_named s c n ≡ segment_named s d n
without_cs s c d =
    by_name (λ n. is_cs n ≡ false → segment_named s c n ≡ segment_named s d n) (λ h. refl) (λ h. unlike refl h) (λ h. refl) (λ h. refl)
    (λ h. refl) (λ h. refl) (λ h. refl) (λ h. refl)

module _ (s : Segments) (c x : Segment) where
  -- the one at a name is found there
  pub named_there : (n : SegmentName) → is_cs n ≡ false → segment_named (with_named s n x) c n ≡ x
  named_there =
      by_name (λ n. is_cs n ≡ false → segment_named (with_named s n x) c n ≡ x) (λ h. refl) (λ h. unlike refl h) (λ h. refl) (λ h. refl)
      (λ h. refl) (λ h. refl) (λ h. refl) (λ h. refl)

  -- and the others stay
  abbrev Other : SegmentName → SegmentName → Type 0
  Other l n = (l ≡ n → ⊥) → segment_named (with_named s l x) c n ≡ segment_named s c n

  pub named_other : (l n : SegmentName) → Other l n
  named_other =
      by_name (λ l. (n : SegmentName) → Other l n)
      (by_name (Other Es) (λ d. absurd (d refl)) (λ d. refl) (λ d. refl) (λ d. refl) (λ d. refl) (λ d. refl) (λ d. refl) (λ d. refl))
      (λ n d. refl)
      (by_name (Other Ss) (λ d. refl) (λ d. refl) (λ d. absurd (d refl)) (λ d. refl) (λ d. refl) (λ d. refl) (λ d. refl) (λ d. refl))
      (by_name (Other Ds) (λ d. refl) (λ d. refl) (λ d. refl) (λ d. absurd (d refl)) (λ d. refl) (λ d. refl) (λ d. refl) (λ d. refl))
      (by_name (Other Fs) (λ d. refl) (λ d. refl) (λ d. refl) (λ d. refl) (λ d. absurd (d refl)) (λ d. refl) (λ d. refl) (λ d. refl))
      (by_name (Other Gs) (λ d. refl) (λ d. refl) (λ d. refl) (λ d. refl) (λ d. refl) (λ d. absurd (d refl)) (λ d. refl) (λ d. refl))
      (by_name (Other Ldtr) (λ d. refl) (λ d. refl) (λ d. refl) (λ d. refl) (λ d. refl) (λ d. refl) (λ d. absurd (d refl)) (λ d. refl))
      (by_name (Other Tr) (λ d. refl) (λ d. refl) (λ d. refl) (λ d. refl) (λ d. refl) (λ d. refl) (λ d. refl) (λ d. absurd (d refl)))
