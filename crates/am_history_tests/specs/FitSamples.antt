-- Small changes, for tests.
--     sample seq start deps preds     a change by the actor aa that sets the name a of the root to null
--     first                           the first of them, beside a hash
use Rattle.std.specs.Prelude.{ℕ, List, [], ◌∷◌, false, None, pos, replicate}
use Rattle.am_types.specs.declared.OpId.{OpId}
use Rattle.am_types.specs.declared.ObjId.TheVariants.{Root}
use Rattle.am_types.specs.declared.Key.TheVariants.{Name}
use Rattle.am_types.specs.declared.Op.{Op}
use Rattle.am_types.specs.declared.Change.{Change}
use Rattle.am_types.specs.declared.Hash.{Hash}
use Rattle.am_types.specs.Members.{Member}

abbrev pub aa : List ℕ
aa = 170 ∷ []

abbrev pub set_a : List OpId → Op
set_a preds = record { obj = Root; key = Name (97 ∷ []); insert = false; action = 1; value = record { kind = 0; raw = [] }; preds = preds; expand = false; mark = None }

abbrev pub sample : ℕ → ℕ → List Hash → List OpId → Change
sample seq start deps preds = record { deps = deps; actor = aa; seq = seq; start = start; time = pos 0; message = []; ops = set_a preds ∷ []; extra = [] }

abbrev pub sevens : Hash
sevens = record { 0 = replicate 32 7 }

abbrev pub first : Member
first = record { hash = sevens; change = sample 1 1 [] [] }
