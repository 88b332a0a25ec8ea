-- The refusals and their numbers (document 01, "Answer numbers").
use Rattle.std.specs.Prelude.{ℕ}
use Rattle.refusals.specs.declared.Refusal.{Refusal}
use Rattle.refusals.specs.declared.Refusal.TheVariants.{WrongPhase, TableFull, FrameOutOfRange, PeriodOutOfRange, BudgetOutOfRange, HoldAboveBudget, TestNotMet, NotInTable, NotNamed, NotUsed, HoldsLock, HoldsNone, ResourceClosed, ResourceLocked, NotIdle, ServerStopped, RunOutOfRange, PastClockEnd, NotWellFormed, BufferTooShort, Other}

-- 1: the wrong phase, or no frame yet; 2: there are 16 servers already; 3: the frame is out of its range; 4: the period is out of its range or no divisor of
-- the frame; 5: the budget is 0 or above the period; 6: a hold is above the budget; 7: the admission test is not met; 8: the slot is not in the table;
-- 9: it is not the named server; 10: the resource is above 7 or not used by the server; 11: the server holds a lock; 12: it holds none; 13: the resource is
-- closed; 14: the resource is locked by another; 15: the server arrives and is not idle; 16: the server is stopped; 17: the run's length is out of its range;
-- 18: now plus n is past the clock's end; 19: a sheet or a line is not well formed; 23: the buffer is too short; `Other` is meant for the numbers of no rule, and no call gives it
abbrev pub number_of : Refusal → ℕ
number_of WrongPhase = 1
number_of TableFull = 2
number_of FrameOutOfRange = 3
number_of PeriodOutOfRange = 4
number_of BudgetOutOfRange = 5
number_of HoldAboveBudget = 6
number_of TestNotMet = 7
number_of NotInTable = 8
number_of NotNamed = 9
number_of NotUsed = 10
number_of HoldsLock = 11
number_of HoldsNone = 12
number_of ResourceClosed = 13
number_of ResourceLocked = 14
number_of NotIdle = 15
number_of ServerStopped = 16
number_of RunOutOfRange = 17
number_of PastClockEnd = 18
number_of NotWellFormed = 19
number_of BufferTooShort = 23
number_of (Other n) = n
