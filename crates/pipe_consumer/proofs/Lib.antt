mod Founds
mod Mapped
mod Ordered
mod Sents
