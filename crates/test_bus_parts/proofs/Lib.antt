mod Keeping
mod Seating
