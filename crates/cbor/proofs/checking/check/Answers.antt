use Rattle.std.proofs.Common.{ℕ, List, get_or, w8, Fits}
use Rattle.cbor.specs.Fault.{Placed}
use Rattle.cbor.specs.Laws.{Exactly, First}
use Rattle.cbor.proofs.Broken.{placed_law}
use Rattle.cbor.proofs.Checks.{fault_short, left_short}
use Rattle.cbor.proofs.Laws.{exactly, first, bytes_from}
use Rattle.cbor.proofs.Shortest.{bytes_drop}
use Rattle.cbor.proofs.checking.check.Goals as goal

pub place_of-requires : goal.place_of-requires
place_of-requires c = left_short _ _ _ c.unread.ensures _ c.in-Ok.ensures

pub place_of-requires-in-Err : goal.place_of-requires-in-Err
place_of-requires-in-Err c = fault_short _ _ _ c.unread.ensures _ c.in-Err.ensures

-- the laws hold of whatever bytes a message holds
module _ (s : List ℕ) (start : ℕ) (fits : (i : ℕ) → Fits w8 (get_or s i 0)) where
  laws : record { exactly : Exactly s start; first : First s start; place : Placed s start }
  laws =
      let each = bytes_drop start s (bytes_from s (λ i. (fits i).fits)) in
      record { exactly = exactly s start each; first = first s start each; place = placed_law s start each }

pub returns-in-Ok-empty-clause-exactly : goal.returns-in-Ok-empty-clause-exactly
returns-in-Ok-empty-clause-exactly c = (laws _ _ c.type_inv.message).exactly

pub returns-in-Ok-clause-exactly : goal.returns-in-Ok-clause-exactly
returns-in-Ok-clause-exactly c = (laws _ _ c.type_inv.message).exactly

pub returns-in-Ok-clause-first : goal.returns-in-Ok-clause-first
returns-in-Ok-clause-first c = (laws _ _ c.type_inv.message).first

pub returns-in-Ok-clause-place : goal.returns-in-Ok-clause-place
returns-in-Ok-clause-place c = (laws _ _ c.type_inv.message).place

pub returns-in-Err-clause-exactly : goal.returns-in-Err-clause-exactly
returns-in-Err-clause-exactly c = (laws _ _ c.type_inv.message).exactly

pub returns-in-Err-clause-first : goal.returns-in-Err-clause-first
returns-in-Err-clause-first c = (laws _ _ c.type_inv.message).first

pub returns-in-Err-clause-place : goal.returns-in-Err-clause-place
returns-in-Err-clause-place c = (laws _ _ c.type_inv.message).place
