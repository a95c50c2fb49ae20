-- What is read of contents that are known to spell a table spells what they spell.
use Rattle.std.proofs.Common.{◌≡◌, ℕ, ◌≤◌, ◌^◌, List, length, Option, sym, ap, ◌∙◌, subst, arith}
use Rattle.am_types.specs.declared.Hash.{Hash}
use Rattle.am_types.specs.declared.Meta.{Meta}
use Rattle.am_types.specs.declared.Row.{Row}
use Rattle.am_types.specs.declared.Table.{Table}
use Rattle.am_doccols.specs.Columns.{SpellsMetas, SpellsRows}
use Rattle.am_doccols.proofs.OneReading.{metas-same}
use Rattle.am_doc.specs.Fronts.{Front}
use Rattle.am_doc.specs.Reading.{places_in, table_with}
use Rattle.am_doc.specs.Spelling.{IsSuffix, SpellsBehind}
use Rattle.am_doc.proofs.Places.{places_known}

few : (t : Table) (columns : List (ℕ × List ℕ)) (actors : List (List ℕ)) → SpellsMetas actors columns t.metas → length t.metas ≤ 2 ^ 64
few t columns actors s = let n = (s.within).few in omega (arith, n)

pub behind_known : (f : Front) (rest : List ℕ) (t : Table) (s : SpellsBehind f rest t) (metas rows : List (ℕ × List ℕ)) (suffix : List ℕ) → metas ≡ s.metas → rows ≡ s.rows → suffix ≡ s.suffix
    → (actors : List (List ℕ)) (heads : List Hash) → actors ≡ f.actors → heads ≡ f.heads → (ms : List Meta) (rs : List Row) → SpellsMetas f.actors metas ms → SpellsRows f.actors rows rs → SpellsBehind f rest (table_with actors heads ms rs suffix)
behind_known f rest t s metas rows suffix a b e actors heads same_actors same_heads ms rs p q =
    let spells_ms : SpellsMetas f.actors s.metas ms = subst (λ (cs : List (ℕ × List ℕ)). SpellsMetas f.actors cs ms) a p in
    let spells_rs : SpellsRows f.actors s.rows rs = subst (λ (cs : List (ℕ × List ℕ)). SpellsRows f.actors cs rs) b q in
    let same : ms ≡ t.metas = metas-same f.actors s.metas ms t.metas spells_ms s.spells_metas in
    let places : places_in (length f.heads) s.suffix ≡ t.suffix = places_known (length f.heads) (length t.metas) s.suffix t.suffix (few t s.metas f.actors s.spells_metas) s.is_suffix in
    let P : ℕ → Option (List ℕ) → Type 0 = λ n o. IsSuffix (length f.heads) n s.suffix o in
    record {
      metas = s.metas;
      rows = s.rows;
      suffix = s.suffix;
      joined = s.joined;
      metas_listed = s.metas_listed;
      rows_listed = s.rows_listed;
      are_metas = s.are_metas;
      are_rows = s.are_rows;
      actors = same_actors;
      heads = same_heads;
      are_short = s.are_short;
      ascend = s.ascend;
      spells_metas = spells_ms;
      spells_rows = spells_rs;
      is_suffix = subst (λ n. P n (places_in (length heads) suffix)) (sym (ap length same)) (subst (P (length t.metas)) (sym places ∙ ap (places_in (length f.heads)) (sym e) ∙ ap (λ (hs : List Hash). places_in (length hs) suffix) (sym same_heads)) s.is_suffix);
    }
