-- Laws of the texts: Says on an answer, Tables on a list.
mod Says
mod Tables
