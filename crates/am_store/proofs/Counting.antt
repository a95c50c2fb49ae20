-- The counts of a store.
use Rattle.std.proofs.Common.{ℕ, ◌≡◌, List, length, ap, ◌∙◌}
use Rattle.am_types.specs.declared.Hash.{Hash}
use Rattle.am_types.specs.declared.Totals.{Totals}
use Rattle.am_types.specs.Members.{changes}
use Rattle.am_types.specs.Totals.{totals_of}
use Rattle.am_graph.specs.declared.Node.{Node}
use Rattle.am_fits.specs.Indexes.{Indexed, AreOf}
use Rattle.am_store.specs.declared.report.Counts.{Counts}
use Rattle.am_store.specs.Kept.{Kept, counts_with, counts_of}

pub counted_of : (k : Kept) (g : List (Hash × Node)) (ix : Indexed) → AreOf k.closed g ix → (t : Totals) (n : ℕ) → n ≡ length k.waiting → t ≡ ix.totals → (counts : Counts) → counts ≡ counts_with t n → counts ≡ counts_of k
counted_of k g ix of t n e f counts is =
    let all : t ≡ totals_of (changes k.closed) = f ∙ ap (λ (x : Indexed). x.totals) of.index in
    is ∙ (λ i. counts_with (all i) (e i))
