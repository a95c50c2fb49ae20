-- A counter at all heads, and the document of its changes.
use Rattle.std.proofs.Common.{ℤ, ◌≡◌, List, [], ◌∷◌, refl, Some, None, pos, map}
use Rattle.am_laws.specs.Records.{Hash}
use Rattle.am_types.specs.Numbers.{signed_of}
use Rattle.am_types.specs.Values.{number_of}
use Rattle.am_types.specs.Operations.{all_operations}
use Rattle.am_types.specs.Members.{Member, changes, hashes, heads}
use Rattle.am_types.specs.Ancestors.{ancestors}
use Rattle.am_types.specs.Replay.{replay}
use Rattle.am_types.specs.Rows.{rows}
use Rattle.am_types.specs.Canonical.{order, depth}
use Rattle.am_types.specs.Documents.{table}
use Rattle.am_laws.proofs.SampleHashes.{h_k1, h_k2, h_k3, h_k4, h_k5, h_k6}
use Rattle.am_laws.proofs.Samples.{k1, k2, k3, k4, k5, k6, id, aa, bb, cc, value}

abbrev all : List Member
all = k4 ∷ k3 ∷ k2 ∷ k1 ∷ []

abbrev totals : List Member → List Hash → List ℤ
totals C hs = map (λ e. e.total) (replay (all_operations (changes (ancestors C hs))))

at_nothing : totals all [] ≡ []
unfolding replay ancestors signed_of Rattle.am_leb.specs.Reading.first_signed Rattle.am_leb.specs.Leb.leb Rattle.am_leb.specs.Leb.signed_digits
at_nothing = refl

at_first : totals all (h_k1 ∷ []) ≡ pos 10 ∷ []
unfolding replay ancestors signed_of Rattle.am_leb.specs.Reading.first_signed Rattle.am_leb.specs.Leb.leb Rattle.am_leb.specs.Leb.signed_digits
at_first = refl

at_second : totals all (h_k2 ∷ []) ≡ pos 15 ∷ []
unfolding replay ancestors signed_of Rattle.am_leb.specs.Reading.first_signed Rattle.am_leb.specs.Leb.leb Rattle.am_leb.specs.Leb.signed_digits
at_second = refl

at_third : totals all (h_k3 ∷ []) ≡ pos 7 ∷ []
unfolding replay ancestors signed_of Rattle.am_leb.specs.Reading.first_signed Rattle.am_leb.specs.Leb.leb Rattle.am_leb.specs.Leb.signed_digits
at_third = refl

at_both : totals all (h_k3 ∷ h_k2 ∷ []) ≡ pos 12 ∷ []
unfolding replay ancestors signed_of Rattle.am_leb.specs.Reading.first_signed Rattle.am_leb.specs.Leb.leb Rattle.am_leb.specs.Leb.signed_digits
at_both = refl

at_fourth : totals all (h_k4 ∷ []) ≡ []
unfolding replay ancestors signed_of Rattle.am_leb.specs.Reading.first_signed Rattle.am_leb.specs.Leb.leb Rattle.am_leb.specs.Leb.signed_digits
at_fourth = refl

-- the greatest number of 64 bits has ten bytes, and a total may be above it
greatest : number_of (value 8 (0xff ∷ 0xff ∷ 0xff ∷ 0xff ∷ 0xff ∷ 0xff ∷ 0xff ∷ 0xff ∷ 0xff ∷ 0x00 ∷ [])) ≡ Some (pos 9223372036854775807)
unfolding signed_of Rattle.am_leb.specs.Reading.first_signed Rattle.am_leb.specs.Leb.leb Rattle.am_leb.specs.Leb.signed_digits
greatest = refl

too_great : number_of (value 8 (0x80 ∷ 0x80 ∷ 0x80 ∷ 0x80 ∷ 0x80 ∷ 0x80 ∷ 0x80 ∷ 0x80 ∷ 0x80 ∷ 0x01 ∷ [])) ≡ None
unfolding signed_of Rattle.am_leb.specs.Reading.first_signed Rattle.am_leb.specs.Leb.leb Rattle.am_leb.specs.Leb.signed_digits
too_great = refl

at_fifth : totals (k6 ∷ k5 ∷ []) (h_k5 ∷ []) ≡ pos 9223372036854775807 ∷ []
unfolding replay ancestors signed_of Rattle.am_leb.specs.Reading.first_signed Rattle.am_leb.specs.Leb.leb Rattle.am_leb.specs.Leb.signed_digits
at_fifth = refl

at_sixth : totals (k6 ∷ k5 ∷ []) (h_k6 ∷ []) ≡ pos 9223372036854775812 ∷ []
unfolding replay ancestors signed_of Rattle.am_leb.specs.Reading.first_signed Rattle.am_leb.specs.Leb.leb Rattle.am_leb.specs.Leb.signed_digits
at_sixth = refl

-- ---- the document

the_heads : heads all ≡ h_k4 ∷ []
the_heads = refl

in_order : hashes (order all) ≡ h_k1 ∷ h_k2 ∷ h_k3 ∷ h_k4 ∷ []
unfolding order depth
in_order = refl

successors : map (λ r. r.succs) (rows (all_operations (changes all))) ≡ (id 2 bb ∷ id 2 cc ∷ id 3 aa ∷ []) ∷ [] ∷ [] ∷ []
unfolding rows
successors = refl

the_actors : (table all).actors ≡ aa ∷ bb ∷ cc ∷ []
unfolding table
the_actors = refl

dependencies : map (λ m. m.deps) (table all).metas ≡ [] ∷ (0 ∷ []) ∷ (0 ∷ []) ∷ (2 ∷ 1 ∷ []) ∷ []
unfolding table order depth
dependencies = refl

the_suffix : (table all).suffix ≡ Some (3 ∷ [])
unfolding table order depth
the_suffix = refl
