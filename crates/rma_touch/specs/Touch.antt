-- What a call touches in one of its roles (MPI 4.0, "One-Sided Communications", communication calls).
use Rattle.std.specs.Prelude.{List, Option}
use Rattle.rma_base.specs.declared.rank.Rank.{Rank}
use Rattle.rma_datatype.specs.declared.basic.Basic.{Basic}
use Rattle.rma_bytes.specs.declared.run.Run.{Run}
use Rattle.rma_call.specs.declared.rma.RmaKind.{RmaKind}
use Rattle.rma_call.specs.declared.rma.RmaKind.TheVariants as rma
use Rattle.rma_call.specs.declared.local.LocalAccess.{LocalAccess}
use Rattle.rma_call.specs.declared.local.LocalAccess.TheVariants as local
use Rattle.rma_window.specs.declared.window_id.WindowId.{WindowId}
use Rattle.rma_rules.specs.declared.access_name.Role.{Role}
use Rattle.rma_rules.specs.declared.kind.Operation.TheVariants.{Combine, CompareAndSwap}
use Rattle.rma_rules.specs.declared.kind.Kind.{Kind}
use Rattle.rma_rules.specs.declared.kind.Kind.TheVariants.{Load, Store, Poll, BufferRead, BufferWrite, Get, Put, Accumulate}

-- what a call touches in a role: the memory of a rank, the bytes there, and what it does to them; at a target also the window and
-- the basic datatype of its elements, where they have one
pub record Touch : Type 0 where
  pub role : Role
  pub memory : Rank
  pub runs : List Run
  pub kind : Kind
  pub window : Option WindowId
  pub element : Option Basic

-- what a call does at its target
abbrev pub kind_at_target : RmaKind → Kind
kind_at_target rma.Put = Put
kind_at_target rma.Get = Get
kind_at_target (rma.Accumulate op) = Accumulate (Combine op)
kind_at_target (rma.GetAccumulate op) = Accumulate (Combine op)
kind_at_target (rma.FetchAndOp op) = Accumulate (Combine op)
kind_at_target rma.CompareAndSwap = Accumulate CompareAndSwap

-- what it does to its origin buffer: a get writes it, every other call reads it
abbrev pub kind_at_origin : RmaKind → Kind
kind_at_origin rma.Get = BufferWrite
kind_at_origin _ = BufferRead

-- what a rank does to its own memory
abbrev pub kind_of_local : LocalAccess → Kind
kind_of_local local.Load = Load
kind_of_local local.Store = Store
kind_of_local local.Poll = Poll
