-- Generated changes stay within the limits of a set.
use Rattle.std.proofs.Common.{◌≡◌, ◌≤◌, ◌<◌, ◌*◌, ◌^◌, ℕ, List, [], ◌∷◌, Bool, true, false, nat_lt, None, length, sum_by, option_map, refl, All, arith}
use Rattle.std.specs.Bool.{then_some}
use Rattle.std.proofs.lemmas.Bool.{ltb-true}
use Rattle.std.proofs.lemmas.List.{length-map}
use Rattle.std.proofs.lemmas.List.Elements.{All-head, All-tail, All-weaker}
use Rattle.std.proofs.lemmas.List.Sums.{sum_by-cons}
use Rattle.am_types.specs.declared.Change.{Change}
use Rattle.am_types.specs.declared.Limit.{Limit}
use Rattle.am_types.specs.declared.Limit.TheVariants.{Changes, Operations, Preds, Links}
use Rattle.am_types.specs.declared.Verdict.TheVariants.{Full}
use Rattle.am_types.specs.Fine.{pred_count}
use Rattle.am_types.specs.Members.{Member, changes}
use Rattle.am_types.specs.Totals.{above, first_some}
use Rattle.am_types.specs.Verdicts.{full}
use Rattle.am_genlaws.proofs.Shapes.{IsSmall}

not_above : (most n : ℕ) (limit : Limit) → n ≤ most → above most n limit ≡ None
not_above most n limit within = go (nat_lt most n) refl
  where
    go : (b : Bool) → nat_lt most n ≡ b → then_some b limit ≡ None
    go true e = let l = ltb-true most n e in absurd (omega arith)
    go false e = refl

sum_within : (f : Change → ℕ) (C : List Member) → All (λ m. f m.change ≤ 4) C → sum_by f (changes C) ≤ 4 * length C
sum_within f [] all = omega arith
sum_within f (m ∷ C) all =
    let here = All-head (λ (m : Member). f m.change ≤ 4) m C all in
    let again = sum_within f C (All-tail (λ (m : Member). f m.change ≤ 4) m C all) in
    let sum = sum_by-cons f m.change (changes C) in
    omega arith

-- a hundred thousand small changes are few
pub not_full : (C : List Member) (m : Member) → All IsSmall C → IsSmall m → length C < 100000 → full C m.change ≡ None
not_full C m all small few =
    let ops_of : Change → ℕ = λ c. length c.ops in
    let preds_of : Change → ℕ = λ c. pred_count c.ops in
    let links_of : Change → ℕ = λ c. length c.deps in
    let count = length-map C (λ (m : Member). m.change) in
    let ops = sum_within ops_of C (All-weaker IsSmall (λ m. ops_of m.change ≤ 4) (λ m s. s.ops) C all) in
    let preds = sum_within preds_of C (All-weaker IsSmall (λ m. preds_of m.change ≤ 4) (λ m s. s.preds) C all) in
    let links = sum_within links_of C (All-weaker IsSmall (λ m. links_of m.change ≤ 4) (λ m s. s.links) C all) in
    let a = sum_by-cons ops_of m.change (changes C) in
    let b = sum_by-cons preds_of m.change (changes C) in
    let c = sum_by-cons links_of m.change (changes C) in
    let mine_ops = small.ops in
    let mine_preds = small.preds in
    let mine_links = small.links in
    let changes_few = not_above (2 ^ 20) (length (m.change ∷ changes C)) Changes (omega arith) in
    let ops_few = not_above (2 ^ 22) (sum_by ops_of (m.change ∷ changes C)) Operations (omega arith) in
    let preds_few = not_above (2 ^ 22) (sum_by preds_of (m.change ∷ changes C)) Preds (omega arith) in
    let links_few = not_above (2 ^ 22) (sum_by links_of (m.change ∷ changes C)) Links (omega arith) in
    λ i. option_map Full (first_some (changes_few i ∷ ops_few i ∷ preds_few i ∷ links_few i ∷ []))
