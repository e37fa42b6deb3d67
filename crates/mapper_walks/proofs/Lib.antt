-- Lent leads from the stores over a lent arena to those over words counted from address 0; Whole and Right from what lies right to what that asks, Accepted
-- from the number to the lines that were passed; and Still shows that all lies right again. Walks has the promise, and Trial a map of which it speaks; Want
-- has the numbers of a map that wants a page.
pub mod Lent
pub mod Whole
pub mod Right
pub mod Accepted
pub mod Still
pub mod Walks
pub mod Trial
pub mod Want
